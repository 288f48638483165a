pub mod Machine
pub mod SineCosineLaws
pub mod SignLaws
pub mod WideProduct
pub mod AngleLaws
pub mod RootLaws
pub mod RootDigitsLaws
