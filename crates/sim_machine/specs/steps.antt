pub mod Immediates
pub mod Arguments
pub mod Sites
