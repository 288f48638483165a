pub mod Arc
pub mod Points
pub mod Formed
pub mod Cases
