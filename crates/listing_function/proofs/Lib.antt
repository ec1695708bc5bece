pub mod Steps
pub mod Outcomes
pub mod Lowering
pub mod Walked
pub mod Low
pub mod Declared
pub mod Printed
pub use Rattle.listing_meaning.proofs.machine_steps_proof as machine_steps_proof
