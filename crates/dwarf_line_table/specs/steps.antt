pub mod DebugLocations
pub mod Seen
