pub mod Frame
pub mod Program
pub mod Listing
pub mod Laws
pub mod Settled
pub use Rattle.machine_steps_proof.specs as machine_steps_proof
pub use Rattle.machine_steps_proof.specs.sem_machine as sem_machine
pub use Rattle.machine_steps_proof.specs.sem_value_ids as sem_value_ids
