pub mod Air
pub mod Format
pub mod Checks
pub mod Cases
