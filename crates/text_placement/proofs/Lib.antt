pub mod Steps
pub mod PlacedText
pub mod LineProofs
