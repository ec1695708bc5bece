pub mod Rounds
pub mod RoundsLaws
pub mod Steps
pub use Rattle.dce_proof.specs.SalvageLedger
pub use Rattle.dce_proof.specs.DebugRule
pub mod PassLaws
pub use Rattle.dce_proof.specs.dce_salvage as dce_salvage
pub use Rattle.dce_proof.specs.dce_salvage_proof as dce_salvage_proof
