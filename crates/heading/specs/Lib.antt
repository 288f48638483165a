pub mod Heading
pub mod Cases
