pub mod InitialMachine
pub use Rattle.sim_trace.specs.sim_machine as sim_machine
pub use Rattle.sim_trace.specs as sim_trace
