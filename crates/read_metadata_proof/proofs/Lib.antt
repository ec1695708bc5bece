pub mod Depths
pub mod Fields
