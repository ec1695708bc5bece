pub mod Indices
pub mod Parts
pub mod Tags
pub mod Shapes
pub mod Types
