pub mod Pieces
pub mod Moved
pub use Rattle.dwarf_entry.specs as dwarf_entry
