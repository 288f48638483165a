pub mod SunLaws
pub mod SunSizes
