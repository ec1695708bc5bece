pub mod Flowing
pub mod Framing
pub mod Starting
pub mod Ways
