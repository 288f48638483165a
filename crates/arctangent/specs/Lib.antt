pub mod Direction
pub mod Turning
pub mod Arctangent
pub mod Limbs
