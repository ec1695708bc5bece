pub mod Pairs
pub mod Passing
pub mod Known
pub mod Wanted
mod Leaving
pub mod Keeping
