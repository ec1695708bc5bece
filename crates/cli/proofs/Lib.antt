pub mod Giving
pub mod OptionWords
pub mod CommandWords
