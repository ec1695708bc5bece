pub mod Report
pub mod Text
pub mod steps
pub mod ReportText
