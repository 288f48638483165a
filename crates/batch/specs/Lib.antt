pub mod Batch
pub mod Demand3
