pub mod DoubleMirror
pub mod DoubleLaws
pub mod RefractionLaws
pub mod ZeroPressure
pub mod FiniteRefraction
