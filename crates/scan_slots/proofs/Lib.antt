pub mod One
pub mod MaySettle
pub mod Slots
pub mod Following
pub mod Ruled
pub mod Made
pub mod Causes
pub mod Kept
pub mod Originless
pub mod Sizes
pub use Rattle.scan_rule.proofs.pass_liveness as pass_liveness
pub use Rattle.scan_rule.proofs.scan_allocation as scan_allocation
pub use Rattle.scan_rule.proofs.spill_proof as spill_proof
