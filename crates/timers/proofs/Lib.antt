pub mod ClosedLaws
pub mod CountingLaws
pub mod Examples
pub mod Laws
pub mod SettledLaws
