pub mod Unwinding
pub mod StandsOn
pub mod Laws
pub mod Compiled
pub mod Suspended
pub use Rattle.compile_theorem.specs as compile_theorem
pub use Rattle.dwarf_sections.specs as dwarf_sections
pub use Rattle.dwarf_sections.specs.dwarf_unit as dwarf_unit
