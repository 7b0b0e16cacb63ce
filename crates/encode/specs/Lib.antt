pub mod Answer
pub mod Encode
pub mod Laws
pub mod Refusals
