pub mod References
pub mod Symbols
pub mod Linkable
pub mod steps
pub use Rattle.entry_placement.specs as entry_placement
pub use Rattle.read_linkage.specs as read_linkage
