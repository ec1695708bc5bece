pub mod Forms
pub mod Images
pub mod Raising
pub mod Operands
pub mod Shown
pub mod Framing
pub mod Sizes
pub mod Lying
pub mod Places
pub mod Settling
pub use Rattle.machine_steps_proof.proofs as machine_steps_proof
pub use Rattle.machine_steps_proof.proofs.sem_value_ids as sem_value_ids
