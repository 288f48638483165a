pub mod Separation
pub mod Radius
pub mod Eclipse
pub mod Answer
pub mod Demand3
pub mod EclipseRange
