pub mod Codes
pub mod Fault
pub mod Given
pub mod Lent
