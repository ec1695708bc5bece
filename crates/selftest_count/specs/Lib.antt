pub mod Counts
pub mod Apart
pub mod Runs
pub mod Text
pub mod steps
pub use Rattle.sim_machine.specs as sim_machine
pub use Rattle.sim_start.specs as sim_start
