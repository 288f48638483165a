pub mod ArcLaws
pub mod SearchLaws
pub mod PointLaws
pub mod CasesHold
