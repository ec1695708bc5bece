mod Silences
mod Inserted
mod LostItems
mod Walked
pub use Rattle.scan_debug.proofs.Sound
pub use Rattle.scan_stale.proofs.scan_liveness as scan_liveness
