pub mod Turns
pub mod Offsets
pub mod Ends
pub mod Kept
pub mod Made
