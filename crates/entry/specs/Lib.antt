pub mod InPlace
pub mod InPlaceLaws
