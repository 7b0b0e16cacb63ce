pub mod Layout
pub mod Summaries
