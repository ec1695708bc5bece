-- Location lists that are true in every frame.
use Rattle.std.specs.Prelude.{◌≡◌, ℕ, List, length, Contains, Option, Some, None, slice_get}
use Rattle.mir_func.specs.declared.position.Pos.{Pos}
use Rattle.mir_func.specs.declared.variable.VarId.{VarId}
use Rattle.mir_func.specs.Graph.{Program}
use Rattle.mir_func.specs.Parts.{Bytes}
use Rattle.emit_code.specs.declared.code.EncodedInstruction.{EncodedInstruction}
use Rattle.dwarf_loclists.specs.declared.range.Location.{Location}
use Rattle.dwarf_loclists.specs.declared.range.Range.{Range}
use Rattle.dwarf_loclists.specs.Ranges.{Ascend, ArePlaces, location_in}
use Rattle.location_of_variable.specs.VariableLocation.{IsWantedLocation}
use Rattle.location_ranges.specs.Lists.{point_of, HasByte}
use Rattle.kept_ranges.specs.Calls.{suspended_at}
use Rattle.kept_ranges.specs.Kept.{GivesKept}

-- the location required for a variable at a position: in the frame that stands there, or in one that is suspended there, whose callee is passed these slots
abbrev pub IsLocationIn : (g : Program) (start : Pos) → VarId → Pos → (passed : Option (List ℕ)) → Option Location → Type 0
IsLocationIn g start v p None o = IsWantedLocation g start v p o
IsLocationIn g start v p (Some passed) o = (b : Option Bytes) → GivesKept g start passed v p o b

-- the location required for a variable at an address of an entry
abbrev pub IsLocationAt : (g : Program) (start : Pos) → VarId → EncodedInstruction → (address : ℕ) → Option Location → Type 0
IsLocationAt g start v e a o = IsLocationIn g start v (point_of e) (suspended_at g e a) o

-- the ranges of a variable are exact in every frame: at each byte of each entry they have the location required for it there, and no location at any
-- other address. They can be written as a list
pub record AreKeptRangesOf (g : Program) (start : Pos) (entries : List EncodedInstruction) (v : VarId) (ranges : List Range) : Type 0 where
  pub inside : (e : EncodedInstruction) → Contains entries e → (a : ℕ) → HasByte e a → IsLocationAt g start v e a (location_in ranges a)
  pub outside : (a : ℕ) → ((e : EncodedInstruction) → Contains entries e → HasByte e a → ⊥) → location_in ranges a ≡ None
  pub places : ArePlaces ranges
  pub ascend : Ascend ranges

-- the lists of variables, one for each, in their order
pub record AreKeptListsOf (g : Program) (start : Pos) (entries : List EncodedInstruction) (variables : List VarId) (lists : List (List Range)) : Type 0 where
  pub for_all : length lists ≡ length variables
  pub each : (k : ℕ) (v : VarId) (ranges : List Range) → slice_get variables k ≡ Some v → slice_get lists k ≡ Some ranges →
      AreKeptRangesOf g start entries v ranges
