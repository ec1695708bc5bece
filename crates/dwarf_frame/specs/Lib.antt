pub mod Standard
pub mod Table
pub mod Spelling
pub mod FirstFault
pub mod Rows
pub mod steps
