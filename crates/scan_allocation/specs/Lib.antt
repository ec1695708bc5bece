pub mod Walk
pub mod Free
pub mod Allocation
pub mod Coloring
pub mod Laws
pub use Rattle.scan_intervals.specs.pass_liveness as pass_liveness
pub use Rattle.scan_intervals.specs.pass_trait as pass_trait
pub use Rattle.scan_intervals.specs as scan_intervals
pub use Rattle.scan_intervals.specs.sem_mir as sem_mir
pub use Rattle.spill_select.specs.spill_code as spill_code
pub use Rattle.spill_select.specs.spill_rule as spill_rule
pub use Rattle.spill_select.specs.spill_simulation as spill_simulation
