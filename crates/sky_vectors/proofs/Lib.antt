pub mod SkyMirror
pub mod RotationLaws
pub mod Parallax
pub mod LatitudeLaws
pub mod MomentLaws
pub mod SkySizes
pub mod PlaceLaws
