pub mod Standard
pub mod Kinds
pub mod Fields
pub mod Applied
