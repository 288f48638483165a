pub mod Printed
pub mod Sheet
pub mod BodyLine
pub mod PlacesLine
