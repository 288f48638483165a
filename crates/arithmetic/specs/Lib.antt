pub mod Floor
pub mod Ratio
pub mod Each
