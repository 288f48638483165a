pub mod Line
pub mod Decimal
pub mod RoundTrip
pub mod Cases
pub mod Buffer
