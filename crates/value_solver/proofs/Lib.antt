pub mod Numbers
mod Pairing
pub mod Empty
pub mod Renumbering
pub mod Clearing
pub mod Edges
pub mod Exits
pub mod Handing
pub mod Passing
pub mod Proven
pub mod Weights
pub mod Tables
pub mod Marks
pub mod Settling
