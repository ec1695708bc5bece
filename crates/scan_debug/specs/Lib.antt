pub mod Laws
pub use Rattle.scan_simulation.specs.scan_allocation as scan_allocation
pub use Rattle.scan_simulation.specs.scan_rule as scan_rule
pub use Rattle.scan_simulation.specs as scan_simulation
pub use Rattle.scan_simulation.specs.spill_rule as spill_rule
