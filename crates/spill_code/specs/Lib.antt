pub mod Rewrite
pub mod Room
