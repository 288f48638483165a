pub mod SearchLaws
pub mod CurveLaws
pub mod DateLaws
pub mod Demand3
