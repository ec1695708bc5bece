pub mod Plan
pub mod Reserve
pub use Rattle.mir_type_facts.specs as mir_type_facts
pub use Rattle.spill_proof.specs.pass_salvage as pass_salvage
pub use Rattle.spill_proof.specs.spill_debug as spill_debug
pub use Rattle.spill_proof.specs as spill_proof
pub use Rattle.spill_proof.specs.spill_rule as spill_rule
