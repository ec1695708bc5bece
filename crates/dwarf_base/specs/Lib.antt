pub mod Limits
pub mod Standard
pub mod Leb
pub mod Size
