pub mod InstantLaws
pub mod TableLaws
pub mod NarrowMirror
pub mod SumLoop
pub mod TermLaws
