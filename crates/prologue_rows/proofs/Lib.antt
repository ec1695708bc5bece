pub mod Steps
pub mod RowWith
pub mod Numbered
pub mod Ascends
pub mod Names
pub mod Tables
pub mod Places
