pub mod MoonRange
