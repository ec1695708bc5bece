-- The location at an address is that of the one range that has it.
use Rattle.std.specs.Prelude.{Some, Contains}
use Rattle.std.proofs.Common.{◌≡◌, ℕ, zero, suc, ◌<◌, ◌≤◌, List, [], ◌∷◌, length, arith, ap, sym, ◌∙◌, refl, inl, inr}
use Rattle.std.proofs.lemmas.Bool.{cases_lt}
use Rattle.std.proofs.lemmas.Bool.Decides.{nat_tests}
use Rattle.dwarf_loclists.specs.declared.range.Location.{Location}
use Rattle.dwarf_loclists.specs.declared.range.Range.{Range}
use Rattle.dwarf_loclists.specs.Ranges.{Ascend, location_in}

pub hit : (r : Range) (rest : List Range) (address : ℕ) → r.lo ≤ address → address < r.hi → location_in (r ∷ rest) address ≡ Some r.location
hit r rest address from below = grind (arith, nat_tests)

pub before : (r : Range) (rest : List Range) (address : ℕ) → address < r.lo → location_in (r ∷ rest) address ≡ location_in rest address
before r rest address below = grind (arith, nat_tests)

pub after : (r : Range) (rest : List Range) (address : ℕ) → r.hi ≤ address → location_in (r ∷ rest) address ≡ location_in rest address
after r rest address above = grind (arith, nat_tests)

-- a range isn't empty
pub first : (s : Range) (rest : List Range) → Ascend (s ∷ rest) → s.lo < s.hi
first s [] ascend = ascend
first s (t ∷ rest) ascend = ascend.0

-- a later range begins where an earlier one ends, or after
later : (s : Range) (rest : List Range) (r : Range) → Ascend (s ∷ rest) → Contains rest r → s.hi ≤ r.lo
later s [] r ascend (k, inside, at) = absurd (omega arith)
later s (t ∷ rest) r ascend (zero, inside, at) = omega (arith, ascend.1, ap (λ (x : Range). x.lo) at)
later s (t ∷ rest) r ascend (suc k, inside, at) =
    let t_first = later t rest r ascend.3 (k, omega arith, at) in
    omega (arith, ascend.1, first t rest ascend.3, t_first)

pub rest_ascends : (s : Range) (rest : List Range) → Ascend (s ∷ rest) → Ascend rest
rest_ascends s [] ascend = tt
rest_ascends s (t ∷ rest) ascend = ascend.3

pub nonempty : (ranges : List Range) (r : Range) → Ascend ranges → Contains ranges r → r.lo < r.hi
nonempty [] r ascend (k, inside, at) = absurd (omega arith)
nonempty (s ∷ rest) r ascend (zero, inside, at) = omega (arith, first s rest ascend, ap (λ (x : Range). x.lo) at, ap (λ (x : Range). x.hi) at)
nonempty (s ∷ rest) r ascend (suc k, inside, at) =
    let more : k < length rest = omega arith in
    nonempty rest r (rest_ascends s rest ascend) (k, more, at)

pub found : (ranges : List Range) (r : Range) (address : ℕ) → Ascend ranges → Contains ranges r → r.lo ≤ address → address < r.hi
    → location_in ranges address ≡ Some r.location
found [] r address ascend (k, inside, at) from below = absurd (omega arith)
found (s ∷ rest) r address ascend (zero, inside, at) from below =
    hit s rest address (omega (arith, ap (λ (x : Range). x.lo) at)) (omega (arith, ap (λ (x : Range). x.hi) at))
    ∙ ap (λ (x : Range). Some x.location) at
found (s ∷ rest) r address ascend (suc k, inside, at) from below =
    let more : k < length rest = omega arith in
    after s rest address (omega (arith, later s rest r ascend (k, more, at)))
    ∙ found rest r address (rest_ascends s rest ascend) (k, more, at) from below

pub only : (ranges : List Range) (address : ℕ) (p : Location) → location_in ranges address ≡ Some p
    → (r : Range) × Contains ranges r × (r.lo ≤ address) × (address < r.hi) × (p ≡ r.location)
only [] address p e = absurd cc
only (s ∷ rest) address p e =
    elim (cases_lt address s.lo) [
      | inl below ↦ further (only rest address p (sym (before s rest address below) ∙ e))
      | inr from ↦
          elim (cases_lt address s.hi) [
            | inl inside ↦
                let same : Some p ≡ Some s.location = sym e ∙ hit s rest address from inside in
                (s, (0, omega arith, refl), from, inside, cc)
            | inr above ↦ further (only rest address p (sym (after s rest address above) ∙ e))
          ]
    ]
  where
    further : ((r : Range) × Contains rest r × (r.lo ≤ address) × (address < r.hi) × (p ≡ r.location))
        → (r : Range) × Contains (s ∷ rest) r × (r.lo ≤ address) × (address < r.hi) × (p ≡ r.location)
    further (r, (k, inside, at), from, below, is) = (r, (suc k, omega arith, at), from, below, is)
