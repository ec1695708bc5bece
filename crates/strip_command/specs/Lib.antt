pub mod StripText
pub use Rattle.read_program.specs as read_program
