pub mod Marks
pub mod Table
pub mod Open
pub mod SoFar
