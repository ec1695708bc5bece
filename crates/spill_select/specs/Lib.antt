pub mod Incoming
pub mod Left
pub use Rattle.spill_rule.specs.spill_code as spill_code
pub use Rattle.spill_rule.specs as spill_rule
pub use Rattle.spill_rule.specs.spill_simulation as spill_simulation
