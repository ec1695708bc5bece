pub mod Keys
pub mod Entered
