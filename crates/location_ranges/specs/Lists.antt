-- Location lists of a function: the locations of its variables at the addresses of its code.
use Rattle.std.specs.Prelude.{◌≡◌, ℕ, ◌+◌, ◌<◌, ◌≤◌, List, length, Contains, Some, None, slice_get}
use Rattle.mir_func.specs.declared.position.Pos.{Pos}
use Rattle.mir_func.specs.declared.variable.VarId.{VarId}
use Rattle.mir_func.specs.Graph.{Program}
use Rattle.mir_func.specs.Successors.{pos_in}
use Rattle.emit_code.specs.declared.code.EncodedInstruction.{EncodedInstruction}
use Rattle.dwarf_loclists.specs.declared.range.Range.{Range}
use Rattle.dwarf_loclists.specs.Ranges.{Ascend, ArePlaces, location_in}
use Rattle.location_of_variable.specs.VariableLocation.{IsWantedLocation}

-- the point of an entry's item
abbrev pub point_of : EncodedInstruction → Pos
point_of e = pos_in e.point.block e.point.item

-- one of the bytes of an entry is at an address
abbrev pub HasByte : EncodedInstruction → (address : ℕ) → Type 0
HasByte e a = (e.address ≤ a) × (a < e.address + e.size)

-- the ranges of a variable are exact: at each byte of each entry they have the location required for it at the entry's item, and
-- no location at any other address. They can be written as a list
pub record AreRangesOf (g : Program) (start : Pos) (entries : List EncodedInstruction) (v : VarId) (ranges : List Range) : Type 0 where
  pub inside : (e : EncodedInstruction) → Contains entries e → (a : ℕ) → HasByte e a → IsWantedLocation g start v (point_of e) (location_in ranges a)
  pub outside : (a : ℕ) → ((e : EncodedInstruction) → Contains entries e → HasByte e a → ⊥) → location_in ranges a ≡ None
  pub places : ArePlaces ranges
  pub ascend : Ascend ranges

-- the lists of variables, one for each, in their order
pub record AreListsOf (g : Program) (start : Pos) (entries : List EncodedInstruction) (variables : List VarId) (lists : List (List Range)) : Type 0 where
  pub for_all : length lists ≡ length variables
  pub each : (k : ℕ) (v : VarId) (ranges : List Range) → slice_get variables k ≡ Some v → slice_get lists k ≡ Some ranges →
      AreRangesOf g start entries v ranges
