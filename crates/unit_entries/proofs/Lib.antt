pub mod Parts
pub mod PlainProofs
pub mod InlinedProofs
