pub mod Entries
pub mod Chains
pub mod Redirected
mod Linked
mod Grown
