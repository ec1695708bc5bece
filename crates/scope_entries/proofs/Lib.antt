pub mod Gets
pub mod Places
pub mod Linked
pub mod Walks
pub mod Standing
pub mod Forests
