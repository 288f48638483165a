pub mod Fraction
pub mod Reference
