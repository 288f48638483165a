pub mod Octets
pub mod Put
pub mod Again
