pub mod Closing
pub mod Fronts
