pub mod Hex
pub mod Output
pub mod Shown
