pub mod Crossing
pub mod Answer
pub mod Claims
pub mod Worked
