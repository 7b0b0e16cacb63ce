pub mod Kept
pub mod Witnesses
