pub mod Turned
pub mod Tails
pub mod Reached
pub mod Rule
pub mod steps
