pub mod Standard
pub mod Entries
pub mod Unknown
pub mod Unit
pub mod Plain
pub mod Typed
