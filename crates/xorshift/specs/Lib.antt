pub mod Fill
pub mod Nonzero
pub mod Occurs
pub mod RecordLaws
pub mod Values
pub mod Xorshift
