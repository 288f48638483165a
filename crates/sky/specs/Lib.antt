pub mod Shown
pub mod Answer
pub mod Demand3
pub mod Cases
pub mod Mark
