pub mod SizeLaws
pub use Rattle.dce_round.specs.Round
pub mod SalvageLedger
pub mod DebugRule
pub mod DebugLaws
pub use Rattle.dce_round.specs.dce_rule as dce_rule
pub use Rattle.dce_salvage.specs as dce_salvage
pub use Rattle.dce_round.specs.dce_salvage_proof as dce_salvage_proof
pub use Rattle.dce_round.specs.pass_edits as pass_edits
