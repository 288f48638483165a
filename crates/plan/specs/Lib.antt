pub mod Plan
pub mod Answer
pub mod Claims
