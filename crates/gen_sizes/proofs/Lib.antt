pub mod Registers
pub mod Frames
mod Lists
mod Wholes
mod Variables
mod Rows
mod Units
pub mod Sections
