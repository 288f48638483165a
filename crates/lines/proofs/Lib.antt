pub mod AnswerLaws
pub mod Parts
pub mod StreamLaws
