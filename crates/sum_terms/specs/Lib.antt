pub mod TermRange
