pub mod FirstUseOrder
pub mod Limits
pub mod Body
pub mod Closing
pub mod StackEntryKind
pub mod FixedObjects
pub use Rattle.read_declarations.specs as read_declarations
