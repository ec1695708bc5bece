pub mod Unit
pub mod Variables
pub mod Inlined
pub mod steps
pub use Rattle.dwarf_line_table.specs as dwarf_line_table
pub use Rattle.inline_subroutines.specs.inline_instances as inline_instances
pub use Rattle.inline_subroutines.specs as inline_subroutines
