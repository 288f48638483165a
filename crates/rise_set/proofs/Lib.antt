pub mod CrossingLaws
pub mod AnswerLaws
pub mod ClaimsHold
