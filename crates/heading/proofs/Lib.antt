pub mod HeadingLaws
pub mod MiddleSize
pub mod CasesHold
