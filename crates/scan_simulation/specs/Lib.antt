pub mod Follows
pub use Rattle.scan_rule.specs.scan_allocation as scan_allocation
pub use Rattle.scan_rule.specs as scan_rule
pub use Rattle.scan_rule.specs.spill_code as spill_code
pub use Rattle.scan_rule.specs.spill_rule as spill_rule
