-- The sections of functions with their inlined functions.
use Rattle.std.specs.Prelude.{◌≡◌, ℕ, ◌≤◌, ◌⊎◌, List, length, map}
use Rattle.std.specs.List.{AllZip, flat_map}
use Rattle.read_metadata.specs.Maps.{Maps}
use Rattle.dwarf_base.specs.Limits.{SECTION_LIMIT}
use Rattle.dwarf_info.specs.Inlined.{inlined_spelling}
use Rattle.dwarf_line.specs.Spelling.{spelling as rows_spelling}
use Rattle.dwarf_unit.specs.dwarf_line_table.declared.source_and_code.SourceAndCode.{SourceAndCode}
use Rattle.dwarf_unit.specs.dwarf_line_table.Program.{table_with}
use Rattle.dwarf_rnglists.specs.declared.range.AddressRange.{AddressRange}
use Rattle.dwarf_rnglists.specs.Grammar.{IsSection}
use Rattle.dwarf_rnglists.specs.Spelling.{spelling as ranges_spelling}
use Rattle.dwarf_unit.specs.inline_subroutines.declared.subroutine.InlinedSubroutine.{InlinedSubroutine}
use Rattle.dwarf_unit.specs.inline_subroutines.Subroutines.{AreSubroutines}
use Rattle.dwarf_unit.specs.Inlined.{call_scopes, inlined_unit_of}

-- the instances of each function
abbrev pub HaveInstances : Maps → List SourceAndCode → List (List InlinedSubroutine) → Type 0
HaveInstances meta functions instances = AllZip (AreSubroutines meta) functions instances

-- the range lists of all instances, in their order
abbrev pub range_lists : List (List InlinedSubroutine) → List (List AddressRange)
range_lists instances = flat_map (λ is. map (λ i. i.ranges) is) instances

-- `.debug_info`, `.debug_line` and `.debug_rnglists` encode the unit of the program with its instances, its line number table with their calls' files, and
-- their ranges
pub record AreInlinedSections (meta : Maps) (text_len : ℕ) (functions : List SourceAndCode) (info rows ranges : List ℕ) : Type 0 where
  pub instances : List (List InlinedSubroutine)
  pub have : HaveInstances meta functions instances
  pub info_is : info ≡ inlined_spelling (inlined_unit_of meta text_len functions instances)
  pub rows_are : rows ≡ rows_spelling (table_with meta functions (call_scopes meta instances))
  pub section : IsSection ranges (range_lists instances)

-- one of these sections would be too large
pub record IsLargeInlined (meta : Maps) (text_len : ℕ) (functions : List SourceAndCode) : Type 0 where
  pub instances : List (List InlinedSubroutine)
  pub have : HaveInstances meta functions instances
  pub large : (SECTION_LIMIT ≤ length (inlined_spelling (inlined_unit_of meta text_len functions instances)))
      ⊎ ((SECTION_LIMIT ≤ length (rows_spelling (table_with meta functions (call_scopes meta instances))))
      ⊎ (SECTION_LIMIT ≤ length (ranges_spelling (range_lists instances))))
