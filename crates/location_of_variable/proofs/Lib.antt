pub mod Gathering
pub mod Locating
pub mod Giving
pub mod OneLocation
