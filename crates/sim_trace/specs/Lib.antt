pub mod Variables
pub mod Lines
pub mod Run
pub mod steps
pub use Rattle.sim_machine.specs as sim_machine
pub use Rattle.sim_proof.specs as sim_proof
