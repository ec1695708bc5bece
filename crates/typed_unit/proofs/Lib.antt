pub mod References
pub mod Trees
pub mod Typed
pub mod Told
