mod Reached
mod Walk
pub use Rattle.dataflow.proofs as dataflow
