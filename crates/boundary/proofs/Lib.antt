pub mod CodeLaws
pub mod DisksLaws
pub mod FaultLaws
pub mod LentLaws
