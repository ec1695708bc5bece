pub mod Placing
pub mod LineProofs
pub mod FrameProofs
pub mod EntryProofs
