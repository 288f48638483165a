pub mod DaysLine
