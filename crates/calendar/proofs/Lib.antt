pub mod RefusalLaws
pub mod DayCountLaws
