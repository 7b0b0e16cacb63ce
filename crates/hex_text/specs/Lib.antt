pub mod Text
pub mod TextLaws
pub mod Stream
pub mod Refusals
pub mod StreamLaws
pub mod StreamTheorems
pub mod StreamBuffer
