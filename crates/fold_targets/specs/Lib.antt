pub mod Ways
pub mod Leads
pub mod Ends
pub mod steps
