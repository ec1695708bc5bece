pub mod Linked
pub mod Names
