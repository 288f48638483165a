pub mod AnswerLaws
pub mod Demand3
pub mod CasesHold
pub mod Mark
