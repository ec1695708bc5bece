pub mod Rows
pub mod Guaranteed
