pub mod DayLaws
pub mod FillLaws
pub mod AnswerLaws
pub mod WithoutLaws
pub mod PlanLaws
pub mod ClaimsHold
