pub mod Names
pub mod Moves
pub mod Halves
pub mod SignExtension
pub mod Tails
pub mod Passed
