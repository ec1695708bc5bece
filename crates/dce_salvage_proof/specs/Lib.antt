pub mod Dropped
pub mod DropLaws
pub mod SalvageLaws
pub use Rattle.dce_rule.specs as dce_rule
pub use Rattle.dce_salvage.specs as dce_salvage
pub use Rattle.pass_edits.specs as pass_edits
