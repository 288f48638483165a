pub mod BufferLaws
pub mod StdLaws
pub mod LineLaws
pub mod WordLaws
pub mod Reading
pub mod DecimalLaws
pub mod RoundTrip
pub mod CasesHold
