pub mod CheckLaws
pub mod HeaderLaws
pub mod AzimuthLaws
pub mod CasesHold
