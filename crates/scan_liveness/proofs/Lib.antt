mod Touched
pub mod Named
mod Stepped
mod Walked
mod Counted
pub mod Ordered
mod Made
