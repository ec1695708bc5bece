pub mod Standard
pub mod Declarations
pub mod Entries
pub mod Grammar
pub mod steps
