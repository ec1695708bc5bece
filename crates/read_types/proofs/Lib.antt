pub mod Search
pub mod Listing
pub mod Independent
pub mod Counts
pub mod Places
