pub mod Program
pub use Rattle.linkable_command.specs as linkable_command
