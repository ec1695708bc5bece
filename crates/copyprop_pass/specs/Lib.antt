pub use Rattle.copyprop_proof.specs.copyprop_block as copyprop_block
pub use Rattle.copyprop_proof.specs as copyprop_proof
pub use Rattle.copyprop_proof.specs.copyprop_rule as copyprop_rule
