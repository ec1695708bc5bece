-- The ranges of instances while the instructions are walked: some are open, those of the calls through which the last instruction was inlined.
use Rattle.std.specs.Prelude.{◌≡◌, ℕ, suc, ◌<◌, ◌≤◌, List, [], ◌∷◌, ◌++◌, length, Bool, not, ◌&&◌, cond, Option, Some, None, slice_get, slice_set}
use Rattle.std.specs.Prelude.{get_or, nat_eq}
use Rattle.std.specs.List.{list_any}
use Rattle.dwarf_rnglists.specs.declared.range.AddressRange.{AddressRange}
use Rattle.inline_instances.specs.declared.ranges.OpenRanges.{OpenRanges}
use Rattle.inline_instances.specs.declared.instance.Instance.{Instance}
use Rattle.inline_instances.specs.Words.{InlinedWord, extended, ranges_of}

-- an instance and those around it, by their indices: inner ones first
abbrev pub AreAround : List Instance → Option ℕ → List ℕ → Type 0
AreAround instances None [] = Unit {0}
AreAround instances None (j ∷ js) = ⊥
AreAround instances (Some k) [] = ⊥
AreAround instances (Some k) (j ∷ js) = (i : Instance) × (j ≡ k) × (slice_get instances k ≡ Some i) × AreAround instances i.parent js

-- parents stand before their children
abbrev pub AreEarlier : List Instance → Type 0
AreEarlier instances = (k p : ℕ) (i : Instance) → slice_get instances k ≡ Some i → i.parent ≡ Some p → p < k

-- how far an index is from none
abbrev pub rank : Option ℕ → ℕ
rank None = 0
rank (Some k) = suc k

-- as many as instances, those that were there as before and the others without ranges
pub record IsGrown (count : ℕ) (old new : OpenRanges) : Type 0 where
  pub ranges : length new.ranges.items ≡ count
  pub starts : length new.starts.items ≡ count
  pub closed : (k : ℕ) → get_or new.ranges.items k [] ≡ get_or old.ranges.items k []
  pub began : (k : ℕ) → get_or new.starts.items k 0 ≡ get_or old.starts.items k 0

-- the last range of an instance is closed at an address
pub record IsClosed (index address : ℕ) (old new : OpenRanges) : Type 0 where
  pub ranges : new.ranges.items
      ≡ slice_set old.ranges.items index (get_or old.ranges.items index [] ++ record { lo = get_or old.starts.items index 0; hi = address } ∷ [])
  pub starts : new.starts.items ≡ old.starts.items

-- a range of an instance begins at an address
pub record IsOpened (index address : ℕ) (old new : OpenRanges) : Type 0 where
  pub ranges : new.ranges.items ≡ old.ranges.items
  pub starts : new.starts.items ≡ slice_set old.starts.items index address

-- the closed ranges of an instance behind an address, by whether it was open before it and is open behind it
abbrev pub closed_at : (before behind : Bool) → (start address : ℕ) → List AddressRange → List AddressRange
closed_at before behind start address ranges = cond (before && not behind) (ranges ++ record { lo = start; hi = address } ∷ []) ranges

-- where its last range began
abbrev pub start_at : (before behind : Bool) → (start address : ℕ) → ℕ
start_at before behind start address = cond (behind && not before) address start

-- Of two lists of instances, those of the first alone were closed at an address, those of the second alone were opened there, and all others are as before.
pub record IsShifted (ks js : List ℕ) (address : ℕ) (old new : OpenRanges) : Type 0 where
  pub ranges : length new.ranges.items ≡ length old.ranges.items
  pub starts : length new.starts.items ≡ length old.starts.items
  pub closed : (k : ℕ) → get_or new.ranges.items k []
      ≡ closed_at (list_any (nat_eq k) ks) (list_any (nat_eq k) js) (get_or old.starts.items k 0) address (get_or old.ranges.items k [])
  pub began : (k : ℕ) → get_or new.starts.items k 0 ≡ start_at (list_any (nat_eq k) ks) (list_any (nat_eq k) js) (get_or old.starts.items k 0) address

-- words that begin at an address, each where the one before it ends
abbrev pub BeginAt : ℕ → List InlinedWord → Type 0
BeginAt a [] = Unit {0}
BeginAt a (w ∷ ws) = (a ≡ w.lo) × (w.lo < w.hi) × BeginAt w.hi ws

-- the ranges of an open instance, whose last range began at `from` and goes on up to `end`, and those of another one
abbrev pub ranges_with : (is_open : Bool) → (closed : List AddressRange) → (from end : ℕ) → List AddressRange → List AddressRange
ranges_with is_open closed from end rest = closed ++ cond is_open (extended from end rest) rest

-- Whatever words follow up to the function's end, the ranges of a call's instance are those that were closed, and then those of the words that follow.
abbrev pub HasRanges : (front : List InlinedWord) → (end : ℕ) → (is_open : Bool) → (from : ℕ) → (closed : List AddressRange) → ℕ → Type 0
HasRanges front end is_open from closed n = (rest : List InlinedWord) → BeginAt end rest →
    ranges_of n (front ++ rest) ≡ ranges_with is_open closed from end (ranges_of n rest)
