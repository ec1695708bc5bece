pub mod Text
pub use Rattle.readback_functions.specs.read_proof as read_proof
pub use Rattle.readback_functions.specs as readback_functions
pub use Rattle.strip_command.specs as strip_command
