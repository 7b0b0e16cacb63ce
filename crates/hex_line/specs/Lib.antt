pub mod Record
pub mod Line
pub mod Sum
pub mod Pairs
