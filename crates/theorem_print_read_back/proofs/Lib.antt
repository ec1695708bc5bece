pub mod Fields
pub mod Lines
pub mod New
pub mod Bodies
pub mod Texts
pub mod Functions
