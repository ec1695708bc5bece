pub mod Row
pub mod Becoming
pub mod Shows
mod Copies
mod Dead
mod Kills
mod Passes
mod Whole
mod Sharing
