mod SameCode
pub mod Follows
mod Live
mod Made
pub use Rattle.dce_salvage_proof.proofs.dce_rule as dce_rule
pub use Rattle.dce_salvage_proof.proofs as dce_salvage_proof
pub use Rattle.dce_sweep.proofs as dce_sweep
pub use Rattle.dce_salvage_proof.proofs.pass_edits as pass_edits
