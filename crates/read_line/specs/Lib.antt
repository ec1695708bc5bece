pub mod Read
pub mod Bracket
pub mod Register
pub mod Address
pub mod Operand
pub mod Attribute
pub mod Item
pub mod Exceeds
pub mod Body
pub use Rattle.mir_func.specs as mir_func
pub use Rattle.read_metadata.specs as read_metadata
pub use Rattle.read_token.specs as read_token
