pub mod Scanned
pub use Rattle.scan_slots.specs.pass_liveness as pass_liveness
pub use Rattle.scan_slots.specs.scan_allocation as scan_allocation
pub use Rattle.scan_slots.specs.scan_intervals as scan_intervals
pub use Rattle.scan_slots.specs.spill_proof as spill_proof
