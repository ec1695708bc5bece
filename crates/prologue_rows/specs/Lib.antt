pub mod Words
pub mod Lines
pub mod Files
pub mod Rows
pub mod Table
pub mod Laws
