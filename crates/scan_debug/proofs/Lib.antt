pub mod Lists
pub mod Sound
pub mod Sizes
pub mod Causes
pub mod Becoming
pub mod Step
pub use Rattle.scan_simulation.proofs as scan_simulation
pub use Rattle.scan_simulation.proofs.spill_rule as spill_rule
