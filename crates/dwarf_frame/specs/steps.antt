pub mod Gives
pub mod Read
