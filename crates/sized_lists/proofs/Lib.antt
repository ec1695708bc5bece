mod Pieces
mod Sections
pub mod Sized
