pub mod CodeAlone
pub mod Scanned
pub use Rattle.scan_slots.proofs.pass_liveness as pass_liveness
pub use Rattle.scan_slots.proofs.scan_allocation as scan_allocation
