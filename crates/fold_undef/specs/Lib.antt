pub mod Bypassed
pub mod Kill
pub mod steps
