pub mod Scripts
pub mod Runs
pub mod Headline
pub mod Listed
pub mod Lines
pub mod Shows
