pub mod Intervals
pub mod Same
pub mod Originless
pub mod Bare
pub use Rattle.scan_allocation.proofs.pass_liveness as pass_liveness
pub use Rattle.scan_allocation.proofs.pass_trait as pass_trait
pub use Rattle.scan_allocation.proofs as scan_allocation
pub use Rattle.spill_proof.proofs.spill_debug as spill_debug
pub use Rattle.spill_proof.proofs as spill_proof
pub use Rattle.scan_allocation.proofs.spill_rule as spill_rule
pub use Rattle.scan_allocation.proofs.spill_simulation as spill_simulation
