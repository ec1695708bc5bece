pub mod Fetching
pub mod Plain
pub mod EveryStep
