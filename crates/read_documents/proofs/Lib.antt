pub mod Cuts
pub mod Reading
pub mod Scanned
pub mod OneFunction
