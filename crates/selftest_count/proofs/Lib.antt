mod Sources
mod Few
mod Turns
mod Starts
mod Counting
pub use Rattle.sim_machine.proofs as sim_machine
