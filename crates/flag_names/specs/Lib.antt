pub mod Compares
pub mod Stores
pub mod Witnesses
