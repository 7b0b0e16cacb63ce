pub mod InterruptLaws
pub mod Interrupts
pub mod Laws
pub mod Registers
pub mod Reset
pub mod ResetLaws
pub mod Words
