pub mod Lowest
pub mod LowestLaws
pub mod TrailingZeros
