pub mod Steps
mod Whole
mod Told
pub mod None
pub mod Quiet
