pub mod Lines
pub mod Again
pub mod Texts
pub use Rattle.readback_functions.proofs.read_proof as read_proof
