pub mod Stripped
mod Calls
pub mod Rows
pub mod Roots
pub mod Over
pub mod Sizes
mod Loop
