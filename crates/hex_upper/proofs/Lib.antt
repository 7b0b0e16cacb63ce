pub mod UpperLaws
pub mod UpperTheorems
pub mod SmallLetters
