-- The places of parts of variables that a callee keeps.
use Rattle.std.specs.Prelude.{◌≡◌, ℕ, List, length, Contains, Option, Some, None, cond, nat_eq, slice_get, slice_index, slice_index_or}
use Rattle.std.specs.List.{list_any}
use Rattle.rv64_instr.specs.declared.place.Place.{Place}
use Rattle.rv64_instr.specs.DefsAndUses.{caller_saved}
use Rattle.mir_func.specs.declared.position.Pos.{Pos}
use Rattle.mir_func.specs.declared.variable.VarId.{VarId}
use Rattle.mir_func.specs.Graph.{Program}
use Rattle.dwarf_loclists.specs.Ranges.{IsListed}
use Rattle.value_tracker.specs.LocationTracker.{is_slot_at}
use Rattle.location_ranges.specs.declared.transfer_tracker.TransferTracker.{TransferTracker}
use Rattle.location_ranges.specs.steps.Places.{ArePlacesAt}
use Rattle.kept_ranges.specs.Kept.{IsKeptLocation, NoneIsKept}

-- the class of the location at an index, if a callee that is passed these slots keeps it, and 0 otherwise
abbrev pub kept_class : (passed : List ℕ) → (places : ℕ → ℕ) → ℕ → ℕ
kept_class passed places i = cond (is_slot_at passed i) 0 (cond (list_any (nat_eq i) caller_saved) 0 (places i))

-- a state as another one, but for the classes of locations that a callee doesn't keep
pub record KeepsClasses (passed : List ℕ) (s kept : TransferTracker) : Type 0 where
  pub classes : (i : ℕ) → slice_index kept.held.places.items i ≡ kept_class passed (slice_index s.held.places.items) i
  pub for_all : length kept.held.places.items ≡ length s.held.places.items
  pub pairs : kept.held.pairs ≡ s.held.pairs
  pub parts : kept.held.parts ≡ s.held.parts
  pub next : kept.held.next ≡ s.held.next
  pub constants : kept.constants ≡ s.constants
  pub reached : kept.reached ≡ s.reached

-- the place of each part: the first kept location of its class, and None at an unreached item
pub record AreKeptPlacesAt (passed : List ℕ) (s : TransferTracker) (places : List (Option Place)) : Type 0 where
  pub kept : TransferTracker
  pub keeps : KeepsClasses passed s kept
  pub are : ArePlacesAt kept places

-- the place required for a part in a suspended frame, or None if none is
abbrev pub IsKeptOrNone : (g : Program) (start : Pos) → (passed : List ℕ) → VarId → Pos → Option Place → Type 0
IsKeptOrNone g start passed v p None = NoneIsKept g start passed v p
IsKeptOrNone g start passed v p (Some place) = IsKeptLocation g start passed v p place

-- the places required for these parts in a suspended frame, in the same order. Each can be written in a list, and no place is required for any other part
pub record AreKeptPlaces (g : Program) (start p : Pos) (passed : List ℕ) (parts : List VarId) (places : List (Option Place)) : Type 0 where
  pub each : (j : ℕ) (w : VarId) → slice_get parts j ≡ Some w → IsKeptOrNone g start passed w p (slice_index_or places j None)
  pub listed : (j : ℕ) (place : Place) → slice_index_or places j None ≡ Some place → IsListed place
  pub others : (w : VarId) → (Contains parts w → ⊥) → NoneIsKept g start passed w p
