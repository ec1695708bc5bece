pub mod Standard
pub mod Ranges
pub mod Spelling
pub mod Grammar
