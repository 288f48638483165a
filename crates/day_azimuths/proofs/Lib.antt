pub mod StepLaws
pub mod AnswerLaws
pub mod StripsHold
