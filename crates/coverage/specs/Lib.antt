pub mod BitLaws
pub mod Map
pub mod MapLaws
