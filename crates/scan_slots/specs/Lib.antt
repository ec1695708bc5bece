pub mod Choice
pub mod Rule
pub mod Step
pub mod Laws
pub mod Kept
pub use Rattle.scan_rule.specs.pass_liveness as pass_liveness
pub use Rattle.scan_rule.specs.scan_allocation as scan_allocation
pub use Rattle.scan_rule.specs.scan_intervals as scan_intervals
pub use Rattle.scan_rule.specs as scan_rule
pub use Rattle.scan_rule.specs.spill_proof as spill_proof
