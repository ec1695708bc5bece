-- What is known of nodes while the calls of a function are found.
use Rattle.std.specs.Prelude.{◌≡◌, ℕ, ◌⊎◌, List, [], true, nat_eq, Option, Some, None, slice_get}
use Rattle.std.specs.List.{list_any}
use Rattle.std.specs.Ordering.{nat_cmp}
use Rattle.std.specs.BTreeMap.{BTreeMap, get}
use Rattle.read_metadata.specs.Maps.{Maps}
use Rattle.inline_instances.specs.Calls.{IsWay, AreCallsFrom}
use Rattle.inline_instances.specs.declared.way.WayEnd.{WayEnd}
use Rattle.inline_instances.specs.declared.way.WayEnd.TheVariants.{Circle, Outermost, Known}

-- a number is in a list
abbrev pub IsIn : ℕ → List ℕ → Type 0
IsIn n ns = list_any (nat_eq n) ns ≡ true

-- what a node that was met is: the call of the instance with this index, or a call that leads to a circle
abbrev pub IsMarked : Maps → (calls : List ℕ) → ℕ → Option (Option ℕ) → Type 0
IsMarked meta calls n None = Unit {0}
IsMarked meta calls n (Some None) = (ns : List ℕ) → AreCallsFrom meta (Some n) ns → ⊥
IsMarked meta calls n (Some (Some k)) = slice_get calls k ≡ Some n

-- the marks of nodes are right, but for those on the way that is being walked
pub record AreMarks (meta : Maps) (calls way : List ℕ) (marks : BTreeMap ℕ (Option ℕ)) : Type 0 where
  pub each : (n : ℕ) → IsMarked meta calls n (get nat_cmp marks n) ⊎ IsIn n way
  pub all : (k n : ℕ) → slice_get calls k ≡ Some n → get nat_cmp marks n ≡ Some (Some k)
  pub waiting : (n : ℕ) → IsIn n way → get nat_cmp marks n ≡ Some None

-- the way from a call, and where it ends
abbrev pub EndsAt : Maps → (calls : List ℕ) → (from : Option ℕ) → (way : List ℕ) → BTreeMap ℕ (Option ℕ) → WayEnd → Type 0
EndsAt meta calls from way marks Circle = AreMarks meta calls [] marks × ((ns : List ℕ) → AreCallsFrom meta from ns → ⊥)
EndsAt meta calls from way marks Outermost = AreMarks meta calls way marks × IsWay meta from way None
EndsAt meta calls from way marks (Known k) = (n : ℕ) × AreMarks meta calls way marks × IsWay meta from way (Some n) × (slice_get calls k ≡ Some n)
