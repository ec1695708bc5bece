-- The ranges of a track past a change of location.
use Rattle.std.specs.Prelude.{◌≡◌, ℕ, ◌<◌, ◌≤◌, Option, None}
use Rattle.dwarf_loclists.specs.declared.range.Location.{Location}
use Rattle.dwarf_loclists.specs.Ranges.{Ascend, location_in}
use Rattle.location_ranges.specs.declared.track.Track.{Track}
use Rattle.location_ranges.specs.Covered.{covered, Turns, IsTrackTo}

-- past a change at address a the ranges ascend; below a their locations are as before, and from a up to b, exclusive, it is the
-- new one
pub record SaysOn (t : Track) (a : ℕ) (o : Option Location) (u : Track) (b : ℕ) : Type 0 where
  pub track : IsTrackTo u b
  pub before : (x : ℕ) → x < a → location_in (covered u b) x ≡ location_in (covered t a) x
  pub here : (x : ℕ) → a ≤ x → x < b → location_in (covered u b) x ≡ o

-- A change of location at an address preserves the locations below it, and sets the location from it up to any later address.
abbrev pub TurnsSayOn : Type 0
TurnsSayOn = (t u : Track) (a b : ℕ) (o : Option Location) → IsTrackTo t a → a < b → Turns t a o u → SaysOn t a o u b

-- The ranges of a track, closed at an address, ascend and have no location from it on.
abbrev pub TracksAreRanges : Type 0
TracksAreRanges = (t : Track) (a : ℕ) → IsTrackTo t a → Ascend (covered t a) × ((x : ℕ) → a ≤ x → location_in (covered t a) x ≡ None)
