pub mod Variables
pub mod Functions
pub mod Listed
pub mod Lines
pub mod Inlined
pub use Rattle.compile_program.proofs.scan_pass as scan_pass
