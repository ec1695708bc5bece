pub mod Reading
pub mod Declarations
pub mod Lengths
pub mod OneTree
pub mod Writing
