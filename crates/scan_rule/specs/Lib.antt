pub mod Rewrite
pub mod Silence
pub mod Rule
pub mod Step
pub mod Laws
pub use Rattle.scan_allocation.specs.pass_liveness as pass_liveness
pub use Rattle.scan_allocation.specs.pass_trait as pass_trait
pub use Rattle.scan_allocation.specs as scan_allocation
pub use Rattle.scan_allocation.specs.scan_intervals as scan_intervals
pub use Rattle.scan_allocation.specs.spill_code as spill_code
pub use Rattle.spill_proof.specs.spill_debug as spill_debug
pub use Rattle.spill_proof.specs as spill_proof
pub use Rattle.scan_allocation.specs.spill_rule as spill_rule
pub use Rattle.scan_allocation.specs.spill_simulation as spill_simulation
