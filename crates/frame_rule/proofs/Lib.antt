pub mod Rows
pub mod Saved
pub mod Offsets
pub mod Parts
pub mod Ends
pub mod Reach
pub mod Framed
pub mod Forms
