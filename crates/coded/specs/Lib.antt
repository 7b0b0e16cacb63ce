pub mod Answer
pub mod Operands
