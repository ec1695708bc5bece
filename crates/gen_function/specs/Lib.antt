pub mod Draws
pub mod Items
pub mod Generator
pub mod steps
