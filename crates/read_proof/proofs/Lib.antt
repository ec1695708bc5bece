pub mod Nodes
pub mod Numbers
pub mod Labels
pub mod Kept
pub mod Texts
pub mod Languages
