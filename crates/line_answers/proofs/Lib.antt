pub mod PrintedLaws
pub mod SheetLaws
pub mod BodyLineLaws
pub mod PlacesLineLaws
