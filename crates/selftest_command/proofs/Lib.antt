mod NoCalls
mod Uses
mod Joined
pub use Rattle.run_command.proofs as run_command
