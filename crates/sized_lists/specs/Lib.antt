pub mod Standard
pub mod Sized
pub mod Spelling
pub mod Grammar
