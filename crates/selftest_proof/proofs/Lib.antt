mod Fits
mod Told
mod Marked
pub mod Start
pub mod Known
pub mod Together
