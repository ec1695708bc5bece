pub mod Keys
pub mod Used
pub mod Gathering
pub mod Above
pub mod Walking
pub mod Known
pub mod steps
pub use Rattle.value_proof.specs as value_proof
pub use Rattle.value_solver.specs as value_solver
pub use Rattle.value_tracker.specs as value_tracker
