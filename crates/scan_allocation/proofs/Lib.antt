pub mod Walking
pub mod Alike
pub mod Walked
pub mod AllocationOrder
pub mod Explicit
pub mod Named
pub mod Coloring
pub use Rattle.scan_intervals.proofs.pass_liveness as pass_liveness
pub use Rattle.scan_intervals.proofs.pass_trait as pass_trait
pub use Rattle.spill_select.proofs.spill_rule as spill_rule
pub use Rattle.spill_select.proofs.spill_simulation as spill_simulation
