-- The sections that describe functions, apart from the output that they are in.
use Rattle.std.specs.Prelude.{ℕ, ◌≤◌, ◌⊎◌, Bool, true, false, List, length}
use Rattle.read_metadata.specs.Maps.{Maps}
use Rattle.dwarf_base.specs.Limits.{SECTION_LIMIT}
use Rattle.dwarf_info.specs.Entries.{spelling as entries_spelling}
use Rattle.dwarf_line.specs.Spelling.{spelling as rows_spelling}
use Rattle.compile_function.specs.dwarf_line_table.declared.source_and_code.SourceAndCode.{SourceAndCode}
use Rattle.compile_function.specs.dwarf_line_table.Program.{table_of}
use Rattle.compile_function.specs.dwarf_sections.Inlined.{IsLargeInlined}
use Rattle.compile_function.specs.dwarf_unit.Unit.{unit_of}
use Rattle.compile_program.specs.Program.{Describe}
use Rattle.compile_program.specs.declared.compile.Description.{Description}

-- the sections describe functions, with so many bytes of code
abbrev pub IsDescription : Maps → (text_len : ℕ) → List SourceAndCode → Description → Type 0
IsDescription meta text_len functions d = Describe meta text_len functions d.abbreviations d.info d.rows d.ranges

-- one of the sections would be too large
abbrev pub IsLargeDescription : (with_inline : Bool) → Maps → (text_len : ℕ) → List SourceAndCode → Type 0
IsLargeDescription true meta text_len functions = IsLargeInlined meta text_len functions
IsLargeDescription false meta text_len functions =
    (SECTION_LIMIT ≤ length (entries_spelling (unit_of meta text_len functions))) ⊎ (SECTION_LIMIT ≤ length (rows_spelling (table_of meta functions)))
