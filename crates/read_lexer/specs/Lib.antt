pub mod Bytes
pub mod Front
pub mod Line
pub mod Comment
pub mod Spelling
