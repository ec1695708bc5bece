pub mod Naming
pub mod Rows
pub mod Along
pub mod Backwards
pub mod Made
pub mod Sharing
pub mod Paths
