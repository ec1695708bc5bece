pub mod Keeping
mod Clearing
pub mod Locating
pub mod Entries
pub mod Telling
