pub mod Standard
pub mod Spelling
pub mod Grammar
pub mod Sections
pub mod Symbols
pub mod Relocations
pub mod FirstFault
pub mod steps
