pub mod Keys
pub mod Ranges
pub mod Distinct
pub mod Tables
pub mod Entering
pub mod Walked
pub mod Steps
pub mod Members
