pub mod Keeps
mod Loop
pub use Rattle.dce_proof.proofs.Follows
pub mod Chain
mod Thinned
mod Counted
mod Results
