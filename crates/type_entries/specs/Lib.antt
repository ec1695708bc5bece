pub mod Standard
pub mod Entries
pub mod Types
