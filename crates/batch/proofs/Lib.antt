pub mod BatchLaws
pub mod Demand3
pub mod Mark
