pub mod Limited
pub mod Ends
pub mod BodyLines
pub mod Objects
pub mod Pool
pub mod Closing
pub mod Program
pub use Rattle.read_body.specs as read_body
pub use Rattle.read_item.specs as read_item
pub use Rattle.read_line.specs as read_line
