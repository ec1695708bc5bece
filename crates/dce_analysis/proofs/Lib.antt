pub mod Walk
pub mod Blocks
pub use Rattle.dce_rule.proofs as dce_rule
