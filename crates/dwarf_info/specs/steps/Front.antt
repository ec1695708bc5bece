-- The abstract entries in front of the functions, and the section with its length.
use Rattle.std.specs.Prelude.{◌≡◌, ℕ, ◌+◌, ◌-◌, ◌<◌, List, ◌++◌, length, take, drop, slice_index}
use Rattle.std.specs.List.{flat_map}
use Rattle.dwarf_info.specs.Entries.{entry, header}
use Rattle.dwarf_info.specs.Inlined.{abstract_subprogram}

abbrev pub abstract_bytes : List ℕ → List ℕ
abstract_bytes name = entry (abstract_subprogram name)

-- the table has the offset of each abstract entry, if the first one's is at this offset
pub record AreOrigins (first : ℕ) (names : List (List ℕ)) (origins : List ℕ) : Type 0 where
  pub count : length origins ≡ length names
  pub at : (k : ℕ) → k < length names → slice_index origins k ≡ first + length (flat_map abstract_bytes (take k names))

-- the section whose bytes behind the header are those of another one, with its length in its header
abbrev pub HasLength : (section bytes : List ℕ) → Type 0
HasLength section bytes = bytes ≡ header (length section - 4) ++ drop 12 section
