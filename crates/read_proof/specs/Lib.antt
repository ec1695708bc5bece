pub mod Read
pub use Rattle.read_program.specs.read_body as read_body
pub use Rattle.read_program.specs.read_item as read_item
pub use Rattle.read_program.specs as read_program
