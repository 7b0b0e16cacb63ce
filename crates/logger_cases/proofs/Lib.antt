pub mod Cases
pub mod Gauges
