pub mod MoonLaws
pub mod MoonSizes
