pub mod Spared
pub mod Descriptions
