pub mod ReadLaws
pub mod LookupLaws
pub mod CarriedOverLaws
