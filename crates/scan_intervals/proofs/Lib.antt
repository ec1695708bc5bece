pub mod Masks
pub mod Indices
pub mod Standing
pub mod After
pub use Rattle.pass_liveness.proofs as pass_liveness
pub use Rattle.pass_trait.proofs as pass_trait
pub use Rattle.pass_liveness.proofs.sem_mir as sem_mir
