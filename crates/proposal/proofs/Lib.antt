pub mod LegLaws
pub mod VerdictLaws
pub mod ClaimsHold
