pub mod Made
pub use Rattle.copyprop_proof.proofs.copyprop_rule as copyprop_rule
