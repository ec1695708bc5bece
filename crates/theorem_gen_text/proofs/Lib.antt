mod Phis
mod Items
mod Functions
mod Blocks
mod Metadata
pub mod Texts
pub mod Sizes
