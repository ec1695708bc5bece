pub mod Told
pub mod Killed
pub mod Placed
pub mod Ways
pub mod Folding
pub mod Runs
pub mod Along
pub mod Items
pub mod Back
pub mod Paths
pub mod Tails
pub mod Stores
pub mod Shape
mod Stripped
mod Follows
pub mod Reaching
pub mod Passing
pub mod Fewer
pub mod Becoming
pub mod Losing
pub mod Keeping
mod Weights
mod Gone
mod Holding
mod Growing
pub use Rattle.fold_rule_proof.proofs as fold_rule_proof
