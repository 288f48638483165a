pub mod ShortWayLaws
pub mod OverlapLaws
pub mod ShareHolds
