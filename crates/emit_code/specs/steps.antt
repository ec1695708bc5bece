pub mod Places
pub mod Spans
pub mod Plans
pub mod Emitted
