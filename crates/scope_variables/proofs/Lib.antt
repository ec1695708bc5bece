pub mod Keys
pub mod FileBlocks
pub mod Pasts
pub mod Orders
pub mod Tables
pub mod Listings
pub mod Members
pub mod Ordered
