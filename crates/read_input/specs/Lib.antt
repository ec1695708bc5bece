pub mod Unmarked
pub mod Reading
pub mod Input
