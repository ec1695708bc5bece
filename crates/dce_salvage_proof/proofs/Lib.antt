pub mod Dropped
pub mod DropNowhere
mod SalvageNowhere
mod Under
pub mod Copy
mod Same
pub mod Chain
pub use Rattle.dce_rule.proofs as dce_rule
pub use Rattle.pass_edits.proofs as pass_edits
