pub mod Tested
pub mod steps
pub use Rattle.run_command.specs as run_command
