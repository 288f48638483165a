pub mod ArctangentLaws
pub mod LimbLaws
