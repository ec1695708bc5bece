pub mod Shared
pub mod Pass
pub mod Laws
