pub mod Spelling
pub mod Growth
pub mod Printable
pub mod steps
