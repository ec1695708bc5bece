pub mod Runs
pub mod Shown
pub mod Source
pub use Rattle.compile_program.proofs.Passed
pub use Rattle.compile_program.proofs.compile_theorem as compile_theorem
