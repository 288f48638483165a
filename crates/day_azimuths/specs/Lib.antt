pub mod Azimuths
pub mod Answer
pub mod Demand3
pub mod Strips
