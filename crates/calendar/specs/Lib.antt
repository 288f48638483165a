pub mod Refusal
pub mod DayCount
