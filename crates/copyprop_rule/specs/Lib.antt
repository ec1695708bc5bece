pub mod Rule
pub mod Laws
pub mod CodeRule
