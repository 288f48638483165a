pub mod Whole
pub mod Root
pub mod RootDigits
pub mod SineCosine
