pub mod Finds
pub mod StandsOn
pub mod StandsAlong
pub mod Lines
pub mod Unwinds
pub mod Compiled
pub mod Suspended
pub use Rattle.compile_theorem.proofs as compile_theorem
