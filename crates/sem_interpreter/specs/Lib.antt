pub mod Memory
pub mod Places
pub mod Acts
pub mod Assigned
pub mod StandsFor
pub mod Steps
