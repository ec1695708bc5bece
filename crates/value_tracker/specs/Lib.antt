pub mod Things
pub mod Chains
pub mod LocationTracker
pub mod LowestLocation
pub mod Start
pub mod ClassLocation
pub mod Entering
pub use Rattle.value_proof.specs.sem_value_ids as sem_value_ids
pub use Rattle.value_proof.specs as value_proof
pub use Rattle.value_solver.specs as value_solver
