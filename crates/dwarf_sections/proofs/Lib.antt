pub mod Described
pub mod Instances
pub use Rattle.dwarf_unit.proofs.dwarf_line_table as dwarf_line_table
pub use Rattle.dwarf_unit.proofs.inline_subroutines as inline_subroutines
