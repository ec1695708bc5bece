pub mod Prefix
pub mod Items
pub mod Laws
pub mod steps
