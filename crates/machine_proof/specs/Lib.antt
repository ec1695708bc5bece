pub mod Lists
pub mod Runs
pub mod Framing
pub mod Followers
pub mod Entries
pub mod LaidOut
