pub mod Folded
pub mod Laws
pub use Rattle.fold_proof.specs as fold_proof
pub use Rattle.fold_proof.specs.fold_rule_proof as fold_rule_proof
pub use Rattle.pass_losses.specs as pass_losses
