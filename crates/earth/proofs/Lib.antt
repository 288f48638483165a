pub mod NutationLaws
pub mod SiderealLaws
