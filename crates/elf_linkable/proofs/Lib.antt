pub mod Counting
pub mod OneFile
