mod Counts
mod SalvagedNumbers
mod Numbers
pub mod Round
pub use Rattle.dce_round.proofs.Follows
pub mod Lines
pub mod Blocks
pub mod Places
pub mod Here
pub mod Become
pub mod Kept
pub mod Told
pub mod Entries
pub mod Added
pub mod Whole
pub mod Idle
pub use Rattle.dce_round.proofs.dce_rule as dce_rule
pub use Rattle.dce_round.proofs.dce_sweep as dce_sweep
