pub mod Former
pub mod Upper
