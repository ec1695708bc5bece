mod Turns
mod Folding
mod Running
pub use Rattle.fold_proof.proofs.fold_rule_proof as fold_rule_proof
