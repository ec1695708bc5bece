pub mod Standard
pub mod Kinds
pub mod Entries
pub mod Inlined
pub mod steps
