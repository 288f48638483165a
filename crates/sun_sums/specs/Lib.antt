pub mod SunRange
