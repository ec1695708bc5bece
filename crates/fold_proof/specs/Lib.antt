pub mod Runs
pub mod Shapes
pub mod Follows
pub mod Lost
pub mod Debug
pub mod Keeps
pub mod Sizes
pub use Rattle.fold_rule_proof.specs as fold_rule_proof
