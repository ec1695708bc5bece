-- What may follow the ranges of a list, by the last of them.
use Rattle.std.specs.Prelude.{◌≢◌, nat_le, nat_lt, ◌&&◌, if◌then◌else◌, All, Option, Some}
use Rattle.std.proofs.Common.{◌≡◌, ℕ, ◌<◌, ◌≤◌, List, [], ◌∷◌, ◌++◌, arith, ap, sym, ◌∙◌, refl, inl, inr}
use Rattle.std.proofs.lemmas.Bool.{cases_lt}
use Rattle.std.proofs.lemmas.Bool.Decides.{nat_tests}
use Rattle.std.proofs.lemmas.List.Elements.{All-cons, All-rest, All-head, All-nil}
use Rattle.rv64_instr.specs.declared.place.Place.{Place}
use Rattle.rv64_instr.specs.declared.place.Place.TheVariants.{Register, Slot, Const}
use Rattle.dwarf_loclists.specs.declared.range.Location.{Location}
use Rattle.dwarf_loclists.specs.declared.range.Location.TheVariants.{Whole, Parts}
use Rattle.dwarf_loclists.specs.declared.range.Range.{Range}
use Rattle.dwarf_loclists.specs.Ranges.{Ascend, IsLocated, location_in}
use Rattle.dwarf_loclists.specs.Spelling.{simple_location, expression}
use Rattle.dwarf_loclists.specs.steps.Reader.{Last}
use Rattle.dwarf_loclists.proofs.OneLocation.{expression_one, some_piece}

-- the last two of ranges that ascend
pub ascend_split : (front : List Range) (r s : Range) → Ascend ((front ++ r ∷ []) ++ s ∷ [])
    → (r.hi ≤ s.lo) × (r.hi ≡ s.lo → r.location ≢ s.location) × (s.lo < s.hi)
ascend_split [] r s a = (a.1, a.2, a.3)
ascend_split (p ∷ []) r s a = (a.3.1, a.3.2, a.3.3)
ascend_split (p ∷ q ∷ front) r s a = ascend_split (q ∷ front) r s a.3

pub ascend_join : (front : List Range) (r s : Range) → Ascend (front ++ r ∷ []) → r.hi ≤ s.lo → (r.hi ≡ s.lo → r.location ≢ s.location) → s.lo < s.hi
    → Ascend ((front ++ r ∷ []) ++ s ∷ [])
ascend_join [] r s a onward apart order = (a, onward, apart, order)
ascend_join (p ∷ []) r s a onward apart order = (a.0, a.1, a.2, (a.3, onward, apart, order))
ascend_join (p ∷ q ∷ front) r s a onward apart order = (a.0, a.1, a.2, ascend_join (q ∷ front) r s a.3 onward apart order)

first_order : (r : Range) (rest : List Range) → Ascend (r ∷ rest) → r.lo < r.hi
first_order r [] a = a
first_order r (s ∷ rest) a = a.0

-- all end where the last one does, or before
pub below_last : (front : List Range) (r : Range) (lo : ℕ) → Ascend (front ++ r ∷ []) → r.hi ≤ lo → All (λ (s : Range). s.hi ≤ lo) (front ++ r ∷ [])
below_last [] r lo a end = All-cons (λ (s : Range). s.hi ≤ lo) r [] end (All-nil (λ (s : Range). s.hi ≤ lo))
below_last (p ∷ []) r lo a end =
    All-cons (λ (s : Range). s.hi ≤ lo) p (r ∷ []) (omega (arith, a.1, a.3)) (below_last [] r lo a.3 end)
below_last (p ∷ q ∷ front) r lo a end =
    let rest = below_last (q ∷ front) r lo a.3 end in
    let next : q.hi ≤ lo = All-head (λ (s : Range). s.hi ≤ lo) q (front ++ r ∷ []) rest in
    All-cons (λ (s : Range). s.hi ≤ lo) p (q ∷ front ++ r ∷ []) (omega (arith, a.1, first_order q (front ++ r ∷ []) a.3)) rest

pub last_below : (front : List Range) (r : Range) (lo : ℕ) → All (λ (s : Range). s.hi ≤ lo) (front ++ r ∷ []) → r.hi ≤ lo
last_below [] r lo all = All-head (λ (s : Range). s.hi ≤ lo) r [] all
last_below (p ∷ front) r lo all = last_below front r lo (All-rest (λ (s : Range). s.hi ≤ lo) p (front ++ r ∷ []) (p ∷ (front ++ r ∷ [])) refl all)

place_bytes : (p : Place) → simple_location p ≡ [] → ⊥
place_bytes (Register r) e = cc
place_bytes (Slot o) e = cc
place_bytes (Const c) e = cc

some_bytes : (l : Location) → IsLocated l → expression l ≡ [] → ⊥
some_bytes (Whole p) ok e = place_bytes p e
some_bytes (Parts []) ok e = ok
some_bytes (Parts (p ∷ parts)) ok e = some_piece 0 p _ e

pub last_none : Last [] 0 []
last_none = record {
  begins = λ lo from. All-nil (λ (r : Range). r.hi ≤ lo);
  ends = λ lo all. omega arith;
  apart = λ r ok from order differs. order;
  same = λ r ok ascend at e. some_bytes r.location ok e;
}

pub last_more : (ranges : List Range) (r : Range) → Ascend (ranges ++ r ∷ []) → IsLocated r.location → Last (ranges ++ r ∷ []) r.hi (expression r.location)
last_more ranges r ascend located = record {
  begins = λ lo from. below_last ranges r lo ascend from;
  ends = λ lo all. last_below ranges r lo all;
  apart = λ s ok from order differs. ascend_join ranges r s ascend from (λ at same. differs (sym at) (ap expression (sym same))) order;
  same = λ s ok both at e. (ascend_split ranges r s both).1 (sym at) (sym (expression_one s.location r.location ok located e));
}

-- the location at an address, with a range more
pub found_last : (front : List Range) (r : Range) (address : ℕ) → All (λ (s : Range). s.hi ≤ r.lo) front → r.lo ≤ address → address < r.hi
    → location_in (front ++ r ∷ []) address ≡ Some r.location
found_last [] r address all from below = grind (arith, nat_tests)
found_last (p ∷ front) r address all from below =
    let before : p.hi ≤ r.lo = All-head (λ (s : Range). s.hi ≤ r.lo) p front all in
    let rest = found_last front r address (All-rest (λ (s : Range). s.hi ≤ r.lo) p front (p ∷ front) refl all) from below in
    past p (front ++ r ∷ []) address (omega arith) ∙ rest
  where
    past : (p : Range) (rest : List Range) (address : ℕ) → p.hi ≤ address → location_in (p ∷ rest) address ≡ location_in rest address
    past p rest address above = grind (arith, nat_tests)

pub found_before : (front : List Range) (r : Range) (address : ℕ) → (r.lo ≤ address → address < r.hi → ⊥) → location_in (front ++ r ∷ []) address
    ≡ location_in front address
found_before [] r address outside =
    elim (cases_lt address r.lo) [
      | inl below ↦ grind (arith, nat_tests)
      | inr from ↦
          elim (cases_lt address r.hi) [ inl inside ↦ absurd (outside from inside) | inr above ↦ grind (arith, nat_tests) ]
    ]
found_before (p ∷ front) r address outside = same p _ _ (found_before front r address outside)
  where
    same : (p : Range) (xs ys : List Range) → location_in xs address ≡ location_in ys address → location_in (p ∷ xs) address ≡ location_in (p ∷ ys) address
    same p xs ys e = ap (λ (o : Option Location). if nat_le p.lo address && nat_lt address p.hi then Some p.location else o) e
