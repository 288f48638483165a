pub mod RequestLaws
pub mod Limits
