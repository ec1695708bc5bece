pub mod Asked
pub use Rattle.sim_trace.proofs.sim_proof as sim_proof
