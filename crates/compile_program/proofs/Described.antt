-- Sections that describe functions and are too large: plain ones, or those with inlined functions.
use Rattle.std.proofs.Common.{◌≡◌, ℕ, ◌⊎◌, Bool, true, false, List, inl, inr, refl}
use Rattle.compile_function.specs.dwarf_line_table.declared.source_and_code.SourceAndCode.{SourceAndCode}
use Rattle.dwarf_loclists.specs.declared.range.Range.{Range}
use Rattle.compile_function.specs.dwarf_sections.Inlined.{IsLargeInlined}
use Rattle.read_metadata.specs.Maps.{Maps}
use Rattle.compile_program.specs.Program.{IsLarge}
use Rattle.compile_program.specs.steps.Described.{IsLargeDescription}

pub large_description : (with_inline : Bool) (meta : Maps) (text_len : ℕ) (lists : List (List Range)) (functions : List SourceAndCode)
    → IsLargeDescription with_inline meta text_len functions
    → IsLarge meta text_len lists functions ⊎ ((with_inline ≡ true) × IsLargeInlined meta text_len functions)
large_description true meta text_len lists functions large = inr (refl, large)
large_description false meta text_len lists functions large = inl (inr large)
