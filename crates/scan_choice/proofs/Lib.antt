mod Entered
mod Chosen
pub use Rattle.scan_liveness.proofs as scan_liveness
