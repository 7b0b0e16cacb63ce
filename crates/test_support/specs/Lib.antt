pub mod Arguments
pub mod Counts
pub mod Edits
pub mod Numbers
