pub mod Forms
pub mod Laws
pub mod Debug
pub mod Code
pub mod Body
pub mod Readable
pub mod Again
