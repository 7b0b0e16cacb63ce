pub mod Broken
pub mod Computed
pub mod Opened
pub mod Programs
