pub mod Settled
pub use Rattle.scan_slots.specs.Choice
pub use Rattle.scan_slots.specs.Rule
pub use Rattle.scan_slots.specs.Step
pub use Rattle.spill_pass.specs.mir_type_facts as mir_type_facts
