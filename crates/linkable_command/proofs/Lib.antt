mod Referred
pub mod Written
