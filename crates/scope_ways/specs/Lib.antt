pub mod Outer
pub mod Ways
pub mod steps
