pub mod Count
pub mod Reached
pub mod Retired
