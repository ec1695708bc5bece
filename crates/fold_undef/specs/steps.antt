pub mod Seen
pub mod Gathered
