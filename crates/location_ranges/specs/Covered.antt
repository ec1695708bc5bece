-- A track: the finished ranges of a variable, and the open one.
use Rattle.std.specs.Prelude.{◌≡◌, ℕ, suc, ◌<◌, List, [], ◌∷◌, ◌++◌, Option, Some, None, All}
use Rattle.dwarf_loclists.specs.declared.range.Location.{Location}
use Rattle.dwarf_loclists.specs.declared.range.Range.{Range}
use Rattle.dwarf_loclists.specs.Ranges.{Ascend}
use Rattle.location_ranges.specs.declared.track.Open.{Open}
use Rattle.location_ranges.specs.declared.track.Track.{Track}

-- the range from one address to another, exclusive, at a location
abbrev pub range : (lo hi : ℕ) → Location → Range
range lo hi location = record { lo = lo; hi = hi; location = location }

-- the location of the open range, or None
abbrev pub located : Option Open → Option Location
located None = None
located (Some o) = Some o.location

-- the open range, closed at an address
abbrev pub closed : Option Open → (address : ℕ) → List Range
closed None a = []
closed (Some o) a = range o.lo a o.location ∷ []

-- a range opened at an address for a location, or none for None
abbrev pub opened : (address : ℕ) → Option Location → Option Open
opened a None = None
opened a (Some l) = Some (record { lo = a; location = l })

-- all ranges of a track, with the open one closed at an address
abbrev pub covered : Track → (address : ℕ) → List Range
covered t a = t.ranges ++ closed t.present a

-- from address a on the location is o. The open range stays open if o is its location; otherwise it is closed at a, and another
-- one is opened for o
pub data Turns (t : Track) (a : ℕ) (o : Option Location) (u : Track) : Type 0 where
  stays : located t.present ≡ o → u.ranges ≡ t.ranges → u.present ≡ t.present → Turns t a o u
  turns : (located t.present ≡ o → ⊥) → u.ranges ≡ covered t a → u.present ≡ opened a o → Turns t a o u

-- the ranges are in order up to an address: they ascend, with the open one last. Without an open one they end below the address;
-- an open one begins below it
abbrev pub AscendTo : List Range → Option Open → (address : ℕ) → Type 0
AscendTo ranges None a = Ascend ranges × All (λ r. r.hi < a) ranges
AscendTo ranges (Some o) a = Ascend (ranges ++ range o.lo (suc o.lo) o.location ∷ []) × (o.lo < a)

-- a track of a walk up to an address is in order
abbrev pub IsTrackTo : Track → (address : ℕ) → Type 0
IsTrackTo t a = AscendTo t.ranges t.present a
