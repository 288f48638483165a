pub mod CrossLaws
pub mod LengthLaws
pub mod RadiusLaws
pub mod DirectionLaws
pub mod InBounds
pub mod AnswerLaws
pub mod Demand3
