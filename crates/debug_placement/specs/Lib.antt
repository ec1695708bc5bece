pub mod Fields
pub mod Lines
pub mod Frames
pub mod Entries
