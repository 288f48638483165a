pub mod Verdict
pub mod Claims
