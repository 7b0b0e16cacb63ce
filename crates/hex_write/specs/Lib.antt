pub mod ImageText
pub mod ImageTextLaws
pub mod ReadBack
pub mod Refusals
