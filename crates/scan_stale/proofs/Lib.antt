mod Taken
mod Shared
mod Exact
pub mod Steps
pub mod Visits
pub use Rattle.dce_stale.proofs as dce_stale
pub use Rattle.scan_choice.proofs.scan_liveness as scan_liveness
