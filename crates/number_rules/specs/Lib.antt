pub mod Angle
pub mod SineTable
pub mod Sine
pub mod SineAccuracy
pub mod ArctangentTable
pub mod Calendar
pub mod Cases
