pub mod Saying
pub mod Places
pub mod Seen
pub mod Walk
