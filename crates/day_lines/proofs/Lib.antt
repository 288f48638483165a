pub mod DaysLineLaws
