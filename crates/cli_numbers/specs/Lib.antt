pub mod Numbers
pub mod Reserve
pub mod Symbols
