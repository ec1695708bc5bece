-- The parts of a tree's encoding, as functions of their contents.
use Rattle.std.specs.Prelude.{◌≡◌, ℕ, ◌+◌, ◌<◌, List, [], ◌∷◌, ◌++◌, length, take, slice_index}
use Rattle.std.specs.List.{flat_map}
use Rattle.dwarf_info.specs.declared.unit.BaseEntry.{BaseEntry}
use Rattle.dwarf_info.specs.declared.unit.VariableEntry.{VariableEntry}
use Rattle.dwarf_info.specs.declared.unit.FunctionEntry.{FunctionEntry}
use Rattle.dwarf_info.specs.Entries.{entry, base_type, variable, subprogram}

abbrev pub type_bytes : BaseEntry → List ℕ
type_bytes b = entry (base_type b)

abbrev pub variable_bytes : (offset : ℕ → ℕ) → VariableEntry → List ℕ
variable_bytes offset v = entry (variable offset v)

abbrev pub function_bytes : (offset : ℕ → ℕ) → FunctionEntry → List ℕ
function_bytes offset f = entry (subprogram f) ++ flat_map (variable_bytes offset) f.variables ++ 0 ∷ []

-- the table has the offset of each type's entry, if the first type's is at this offset
pub record AreOffsets (first : ℕ) (types : List BaseEntry) (offsets : List ℕ) : Type 0 where
  pub count : length offsets ≡ length types
  pub at : (k : ℕ) → k < length types → slice_index offsets k ≡ first + length (flat_map type_bytes (take k types))

-- the offset of a type's entry by a table
abbrev pub in_table : List ℕ → ℕ → ℕ
in_table offsets k = slice_index offsets k
