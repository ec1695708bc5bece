pub mod LiveInAmong
pub use Rattle.pass_liveness.proofs as pass_liveness
pub use Rattle.spill_rule.proofs as spill_rule
pub use Rattle.spill_rule.proofs.spill_simulation as spill_simulation
