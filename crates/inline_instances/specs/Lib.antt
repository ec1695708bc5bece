pub mod Calls
pub mod Words
pub mod Instances
pub mod Laws
pub mod steps
pub use Rattle.dwarf_line_table.specs as dwarf_line_table
pub use Rattle.dwarf_line_table.specs.emit_code as emit_code
