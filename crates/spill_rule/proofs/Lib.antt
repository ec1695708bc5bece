pub mod Scratch
pub mod Chosen
pub mod Flat
pub mod RuleFollows
pub use Rattle.spill_simulation.proofs as spill_simulation
