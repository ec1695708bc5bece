pub mod Bounds
pub mod Beside
