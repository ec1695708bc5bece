pub mod Ways
pub mod Blocks
