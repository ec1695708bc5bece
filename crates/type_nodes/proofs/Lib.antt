pub mod Members
pub mod Chains
pub mod Walks
pub mod Building
pub mod Ordered
