pub mod Renaming
pub mod Rows
pub mod Clobbered
pub mod Near
pub mod Numbered
pub mod CodeRuns
pub mod Next
pub mod Debug
pub mod Fetching
pub mod Views
pub mod Following
pub use Rattle.scan_rule.proofs.scan_allocation as scan_allocation
pub use Rattle.scan_rule.proofs as scan_rule
pub use Rattle.scan_rule.proofs.spill_proof as spill_proof
pub use Rattle.scan_rule.proofs.spill_rule as spill_rule
pub use Rattle.scan_rule.proofs.spill_simulation as spill_simulation
