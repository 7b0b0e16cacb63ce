pub mod Cases
pub mod LineLaws
pub mod Refusals
pub mod SumLaws
pub mod PairLaws
pub mod ParseLaws
