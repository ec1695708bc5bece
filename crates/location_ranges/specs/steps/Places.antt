-- The places of parts of variables before an item.
use Rattle.std.specs.Prelude.{◌≡◌, ℕ, ◌<◌, List, length, Option, None, Bool, false, cond, slice_index, slice_index_or}
use Rattle.rv64_instr.specs.declared.place.Place.{Place}
use Rattle.value_tracker.specs.LowestLocation.{AreFirsts}
use Rattle.value_tracker.specs.ClassLocation.{place_of}
use Rattle.location_ranges.specs.declared.transfer_tracker.TransferTracker.{TransferTracker}

-- the table of first locations is empty
abbrev pub IsEmpty : List (Option ℕ) → Type 0
IsEmpty firsts = (c : ℕ) → slice_index_or firsts c None ≡ None

-- the place of each part: the first location of its class, and None at an unreached item
pub record ArePlacesAt (s : TransferTracker) (places : List (Option Place)) : Type 0 where
  pub firsts : List (Option ℕ)
  pub are : AreFirsts s.held.places.items firsts
  pub each : (j : ℕ) → j < length places →
      slice_index_or places j None ≡ cond s.reached (place_of firsts s.constants.items (slice_index s.held.parts.items j)) None

-- a part without a flag has the same place as before, and without `any` no part has a flag
pub record Changes (old new : List (Option Place)) (changed : List Bool) (any : Bool) : Type 0 where
  pub same : (j : ℕ) → slice_index_or changed j false ≡ false → slice_index_or old j None ≡ slice_index_or new j None
  pub quiet : any ≡ false → (j : ℕ) → slice_index_or changed j false ≡ false
