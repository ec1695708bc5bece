pub mod Opcodes
pub mod OneRow
pub mod Entries
pub mod Sections
pub mod ReadLoops
pub mod WriteLoops
pub mod LastRow
