-- How errors of passes and of sections map to errors of compilation.
pub use Rattle.compile_passes.specs.declared.error.PassesError.{PassesError}
use Rattle.compile_passes.specs.declared.error.PassesError.TheVariants as passing
use Rattle.dwarf_sections.specs.declared.sections.SectionError.{SectionError}
use Rattle.dwarf_sections.specs.declared.sections.SectionError.TheVariants as sections
use Rattle.compile_function.specs.declared.error.CompileError.{CompileError}
use Rattle.compile_function.specs.declared.error.CompileError.TheVariants as compiling

-- the compile error of an error in running passes
abbrev pub of_passes : PassesError → CompileError
of_passes passing.NoRegister = compiling.NoRegister
of_passes passing.Memory = compiling.Memory

-- the compile error of an error in making a section
abbrev pub of_section : SectionError → CompileError
of_section sections.TooLarge = compiling.SectionTooLarge
of_section sections.Memory = compiling.Memory
