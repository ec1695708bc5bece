-- The tracks of variables between two entries.
use Rattle.std.specs.Prelude.{◌≡◌, ℕ, zero, suc, ◌+◌, ◌<◌, ◌≤◌, List, [], ◌∷◌, length, Contains, Option, Some, None, slice_get}
use Rattle.std.specs.Prelude.{Bool, false, ◌||◌, slice_index_or}
use Rattle.std.specs.List.{list_any}
use Rattle.rv64_instr.specs.declared.place.Place.{Place}
use Rattle.mir_func.specs.declared.position.Pos.{Pos}
use Rattle.mir_func.specs.declared.variable.VarId.{VarId}
use Rattle.mir_func.specs.Graph.{Program}
use Rattle.emit_code.specs.declared.code.EncodedInstruction.{EncodedInstruction}
use Rattle.dwarf_loclists.specs.declared.range.Location.{Location}
use Rattle.dwarf_loclists.specs.declared.range.Range.{Range}
use Rattle.dwarf_loclists.specs.Ranges.{ArePlaces, location_in}
use Rattle.location_of_variable.specs.declared.group.Group.{Group}
use Rattle.location_of_variable.specs.VariableLocation.{IsWantedLocation, IsLocationFor}
use Rattle.location_ranges.specs.declared.track.Track.{Track}
use Rattle.location_ranges.specs.Covered.{covered, located, Turns, IsTrackTo}
use Rattle.location_ranges.specs.Lists.{HasByte, point_of}

-- a track changes at an address to the location of its variable, by the places of its parts
pub record TurnsBy (group : Group) (places : List (Option Place)) (a : ℕ) (t u : Track) : Type 0 where
  pub to : Option Location
  pub by : IsLocationFor group places to
  pub turns : Turns t a to u

-- the first n tracks have changed at the address, and the others are as before
pub record TurnedBelow (groups : List Group) (places : List (Option Place)) (a : ℕ) (old : List Track) (n : ℕ) (new : List Track) : Type 0 where
  pub for_all : length new ≡ length old
  pub done : (k : ℕ) (group : Group) (t u : Track) → k < n → slice_get groups k ≡ Some group → slice_get old k ≡ Some t → slice_get new k ≡ Some u →
      TurnsBy group places a t u
  pub rest : (k : ℕ) (u : Track) → n ≤ k → slice_get new k ≡ Some u → slice_get old k ≡ Some u

-- each track is at the location of its variable by these places
abbrev pub AreTurned : List Group → List (Option Place) → List Track → Type 0
AreTurned groups places tracks = (k : ℕ) (group : Group) (t : Track) → slice_get groups k ≡ Some group → slice_get tracks k ≡ Some t →
    IsLocationFor group places (located t.present)

-- the part at an index, if there is one, has a flag
abbrev pub is_flagged : List Bool → Option ℕ → Bool
is_flagged changed None = false
is_flagged changed (Some j) = slice_index_or changed j false

-- some part of the group has a flag
abbrev pub has_changed : List Bool → Group → Bool
has_changed changed group = is_flagged changed group.whole || list_any (λ x. is_flagged changed (Some x.index)) group.pieces.items

-- the track of each group without a flag is at the location of its variable by these places
abbrev pub StandStill : List Group → List (Option Place) → (changed : List Bool) → List Track → Type 0
StandStill groups places changed tracks = (k : ℕ) (group : Group) (t : Track) → slice_get groups k ≡ Some group → slice_get tracks k ≡ Some t →
    has_changed changed group ≡ false → IsLocationFor group places (located t.present)

-- the address of the entry at this index, or the end of the last one. The first is at address a, and entries are contiguous
abbrev pub begin_at : (address : ℕ) → List EncodedInstruction → (index : ℕ) → ℕ
begin_at a [] i = a
begin_at a (e ∷ es) zero = a
begin_at a (e ∷ es) (suc i) = begin_at (a + e.size) es i

-- the track is exact for the first i entries: at each of their bytes it has the location required for the variable, and it has
-- none outside of all entries
pub record Says (g : Program) (start : Pos) (entries : List EncodedInstruction) (v : VarId) (i a : ℕ) (t : Track) : Type 0 where
  pub inside : (n : ℕ) (e : EncodedInstruction) → n < i → slice_get entries n ≡ Some e → (x : ℕ) → HasByte e x →
      IsWantedLocation g start v (point_of e) (location_in (covered t a) x)
  pub outside : (x : ℕ) → ((e : EncodedInstruction) → Contains entries e → HasByte e x → ⊥) → location_in (covered t a) x ≡ None
  pub places : (b : ℕ) → ArePlaces (covered t b)

-- each track is in order up to an address
abbrev pub AreTracksTo : (tracks : List Track) → (address : ℕ) → Type 0
AreTracksTo tracks a = (k : ℕ) (t : Track) → slice_get tracks k ≡ Some t → IsTrackTo t a

abbrev pub AllSay : (g : Program) (start : Pos) → List EncodedInstruction → List VarId → (i a : ℕ) → List Track → Type 0
AllSay g start entries variables i a tracks = (k : ℕ) (v : VarId) (t : Track) → slice_get variables k ≡ Some v → slice_get tracks k ≡ Some t →
    Says g start entries v i a t

-- a track without ranges
pub record IsNew (t : Track) : Type 0 where
  pub ranges : t.ranges ≡ []
  pub present : t.present ≡ None

-- the ranges of each track, with the open range closed at an address
pub record Closes (tracks : List Track) (a : ℕ) (lists : List (List Range)) : Type 0 where
  pub for_all : length lists ≡ length tracks
  pub each : (k : ℕ) (ranges : List Range) → slice_get lists k ≡ Some ranges → (t : Track) × (slice_get tracks k ≡ Some t) × (ranges ≡ covered t a)
