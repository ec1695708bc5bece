pub mod Distinct
pub mod Texts
