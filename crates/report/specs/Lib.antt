pub mod Report
pub mod Stored
pub mod ReportLaws
pub mod Refusals
