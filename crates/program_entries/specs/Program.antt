-- The unit of a program.
use Rattle.std.specs.Prelude.{ℕ, Bool, List}
use Rattle.read_metadata.specs.Maps.{Maps}
use Rattle.read_debug_nodes.specs.Maps.{DebugMaps}
use Rattle.read_types.specs.Types.{type_nodes}
use Rattle.dwarf_line_table.specs.declared.source_and_code.SourceAndCode.{SourceAndCode}
use Rattle.dwarf_line_table.specs.Program.{program_file}
use Rattle.prologue_rows.specs.Files.{table_file}
use Rattle.dwarf_unit.specs.Unit.{unit_of}
use Rattle.typed_unit.specs.declared.content.TypedUnit.{TypedUnit}
use Rattle.program_entries.specs.Functions.{typed_unit}

-- what the entries of the unit of functions tell but for its types, with so many bytes of code
abbrev pub program_unit : DebugMaps → Maps → (text_len : ℕ) → (frame_base : Bool) → List SourceAndCode → TypedUnit
program_unit debug meta text_len frame_base functions =
    typed_unit debug (type_nodes debug) meta (table_file (program_file meta functions)) functions (unit_of meta text_len functions) frame_base
