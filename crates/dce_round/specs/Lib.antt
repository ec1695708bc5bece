pub mod Round
pub mod Laws
pub use Rattle.dce_sweep.specs.dce_analysis as dce_analysis
pub use Rattle.dce_salvage_proof.specs.dce_rule as dce_rule
pub use Rattle.dce_salvage_proof.specs as dce_salvage_proof
pub use Rattle.dce_salvage_proof.specs.pass_edits as pass_edits
