-- What the last lookup of places saw, and where another one would change nothing.
use Rattle.std.specs.Prelude.{◌≡◌, ◌≢◌, ◌⊎◌, ℕ, ◌<◌, ◌≤◌, List, length, Option, Some, None, Bool, true, false, slice_index, slice_index_or}
use Rattle.rv64_instr.specs.declared.place.Place.{Place}
use Rattle.value_tracker.specs.ClassLocation.{place_of}
use Rattle.value_tracker.specs.LowestLocation.{AreFirsts}
use Rattle.location_ranges.specs.declared.seen.Seen.{Seen}
use Rattle.location_ranges.specs.declared.transfer_tracker.TransferTracker.{TransferTracker}

-- the location at an index has the same class, or none of the two is flagged
abbrev pub Unconcerned : (used : List Bool) (old new : List ℕ) → ℕ → Type 0
Unconcerned used old new i = (slice_index old i ≡ slice_index new i) ⊎
    ((slice_index_or used (slice_index old i) false ≡ false) × (slice_index_or used (slice_index new i) false ≡ false))

-- each location has the class that was seen there, or none of the two is the class of a part
pub record IsStill (seen : Seen) (places : List ℕ) : Type 0 where
  pub count : length seen.places.items ≡ length places
  pub each : (i : ℕ) → i < length places → Unconcerned seen.used.items seen.places.items places i

-- the state was moved on in its block to a reached item, past no debug value, and is still where something was seen
pub record Rests (seen : Option Seen) (s : TransferTracker) (onward : Bool) (start : ℕ) : Type 0 where
  pub same : onward ≡ true
  pub reached : s.reached ≡ true
  pub unmarked : s.marked ≤ start
  pub of : Seen
  pub is : seen ≡ Some of
  pub still : IsStill of s.held.places.items

-- the classes that were seen are those of a reached state
pub record Sees (seen : Seen) (s : TransferTracker) : Type 0 where
  pub reached : s.reached ≡ true
  pub places : seen.places.items ≡ s.held.places.items
  pub used : (j : ℕ) → j < length s.held.parts.items → slice_index s.held.parts.items j ≢ 0 →
      slice_index_or seen.used.items (slice_index s.held.parts.items j) false ≡ true

-- the place of each part is the first location of its class where something was seen, and its class is flagged if it isn't 0
pub record AreSeen (seen : Seen) (s : TransferTracker) (places : List (Option Place)) : Type 0 where
  pub firsts : List (Option ℕ)
  pub are : AreFirsts seen.places.items firsts
  pub each : (j : ℕ) → j < length places →
      slice_index_or places j None ≡ place_of firsts s.constants.items (slice_index s.held.parts.items j)
  pub used : (j : ℕ) → j < length places → slice_index s.held.parts.items j ≢ 0 →
      slice_index_or seen.used.items (slice_index s.held.parts.items j) false ≡ true
