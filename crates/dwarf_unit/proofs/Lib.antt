pub mod Keys
pub mod Entries
pub mod Typed
pub mod Places
pub mod Divided
pub mod InlinedFunctions
pub mod NodeIndex
pub mod Complete
pub use Rattle.dwarf_line_table.proofs as dwarf_line_table
pub use Rattle.inline_subroutines.proofs as inline_subroutines
