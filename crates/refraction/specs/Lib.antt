pub mod Double
pub mod Air
pub mod Refraction
