pub mod Placing
pub mod Growth
pub mod Growing
pub mod Units
