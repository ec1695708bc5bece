pub mod Standard
pub mod Ranges
pub mod Spelling
pub mod Reading
pub mod Fault
pub mod steps
