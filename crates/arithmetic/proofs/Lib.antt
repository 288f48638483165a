pub mod Difference
pub mod Solver
pub mod Integers
pub mod FloorLaws
pub mod RatioLaws
pub mod Sizes
pub mod Table
