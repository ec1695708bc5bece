pub mod Words
pub mod Scopes
pub mod Laws
pub mod steps
