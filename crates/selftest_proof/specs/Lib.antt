pub mod Known
pub mod Together
pub use Rattle.selftest_count.specs as selftest_count
pub use Rattle.selftest_count.specs.sim_machine as sim_machine
