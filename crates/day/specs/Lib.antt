pub mod Date
pub mod Curve
pub mod Search
pub mod Demand3
