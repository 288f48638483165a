pub mod ShortArctangent
pub mod Overlap
pub mod Share
pub mod DiskRange
