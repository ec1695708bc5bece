-- Ascending ranges with the same location at each address are the same.
use Rattle.std.proofs.Common.{◌≡◌, ℕ, ◌<◌, List, [], ◌∷◌, Some, refl, sym, ap, ◌∙◌, inl, inr, arith}
use Rattle.std.proofs.lemmas.Bool.{cases_lt, cases_order}
use Rattle.dwarf_loclists.specs.declared.range.Location.{Location}
use Rattle.dwarf_loclists.specs.declared.range.Range.{Range}
use Rattle.dwarf_loclists.specs.Ranges.{Ascend, location_in}
use Rattle.std.specs.Prelude.{None}
use Rattle.dwarf_loclists.proofs.Places.{hit, before, after, first, rest_ascends}

-- nothing is below the first range
none_below : (s : Range) (rest : List Range) (a : ℕ) → Ascend (s ∷ rest) → a < s.lo → location_in (s ∷ rest) a ≡ None
none_below s [] a ascend low = before s [] a low
none_below s (t ∷ rest) a ascend low = before s (t ∷ rest) a low ∙ none_below t rest a ascend.3 (omega (arith, low, ascend.0, ascend.1))

-- and nothing of the others below its end
rest_above : (s : Range) (rest : List Range) (a : ℕ) → Ascend (s ∷ rest) → a < s.hi → location_in rest a ≡ None
rest_above s [] a ascend low = refl
rest_above s (t ∷ rest) a ascend low = none_below t rest a ascend.3 (omega (arith, low, ascend.1))

-- where a range ends its location does
ends_there : (s : Range) (rest : List Range) → Ascend (s ∷ rest) → location_in (s ∷ rest) s.hi ≡ Some s.location → ⊥
ends_there s [] ascend e = let none : None ≡ Some s.location = sym (after s [] s.hi (omega arith)) ∙ e in cc
ends_there s (t ∷ rest) ascend e =
    let next : location_in (t ∷ rest) s.hi ≡ Some s.location = sym (after s (t ∷ rest) s.hi (omega arith)) ∙ e in
    elim (cases_lt s.hi t.lo) [
      | inl gap ↦
          let none : None ≡ Some s.location = sym (none_below t rest s.hi ascend.3 gap) ∙ next in
          cc
      | inr from ↦
          let some = first t rest ascend.3 in
          let touch : s.hi ≡ t.lo = omega (arith, from, ascend.1) in
          let both : Some t.location ≡ Some s.location = sym (hit t rest s.hi from (omega (arith, touch, some))) ∙ next in
          let one : s.location ≡ t.location = cc in
          ascend.2 touch one
    ]

abbrev AreAlike : List Range → List Range → Type 0
AreAlike xs ys = (a : ℕ) → location_in xs a ≡ location_in ys a

-- no list begins before the other
not_before : (s t : Range) (rest more : List Range) → Ascend (s ∷ rest) → Ascend (t ∷ more) → AreAlike (s ∷ rest) (t ∷ more) → s.lo < t.lo → ⊥
not_before s t rest more one other alike low =
    let some : Some s.location ≡ None =
    sym (hit s rest s.lo (omega arith) (first s rest one)) ∙ alike s.lo ∙ none_below t more s.lo other low in
    cc

-- nor does its first range end before
not_shorter : (s t : Range) (rest more : List Range) → Ascend (s ∷ rest) → Ascend (t ∷ more) → AreAlike (s ∷ rest) (t ∷ more) → s.lo ≡ t.lo →
    s.location ≡ t.location → s.hi < t.hi → ⊥
not_shorter s t rest more one other alike lo location low =
    let some = first s rest one in
    let there : location_in (t ∷ more) s.hi ≡ Some t.location = hit t more s.hi (omega (arith, lo, some)) low in
    ends_there s rest one (alike s.hi ∙ there ∙ ap (λ (l : Location). Some l) (sym location))

one_number : (a b : ℕ) → (a < b → ⊥) → (b < a → ⊥) → a ≡ b
one_number a b below above = elim (cases_order a b) [
  | inl is ↦ is
  | inr other ↦ elim other [ inl low ↦ absurd (below low) | inr low ↦ absurd (above low) ]
]

pub one_list : (xs ys : List Range) → Ascend xs → Ascend ys → AreAlike xs ys → xs ≡ ys
one_list [] [] one other alike = refl
one_list [] (t ∷ more) one other alike =
    let some : None ≡ Some t.location = alike t.lo ∙ hit t more t.lo (omega arith) (first t more other) in
    cc
one_list (s ∷ rest) [] one other alike =
    let some : Some s.location ≡ None = sym (hit s rest s.lo (omega arith) (first s rest one)) ∙ alike s.lo in
    cc
one_list (s ∷ rest) (t ∷ more) one other alike =
    let back : AreAlike (t ∷ more) (s ∷ rest) = λ a. sym (alike a) in
    let lo : s.lo ≡ t.lo = one_number s.lo t.lo (not_before s t rest more one other alike) (not_before t s more rest other one back) in
    let here : Some s.location ≡ Some t.location =
    sym (hit s rest s.lo (omega arith) (first s rest one)) ∙ alike s.lo
    ∙ hit t more s.lo (omega (arith, lo)) (let some = first t more other in omega (arith, lo, some)) in
    let location : s.location ≡ t.location = cc in
    let hi : s.hi ≡ t.hi = one_number s.hi t.hi (not_shorter s t rest more one other alike lo location)
    (not_shorter t s more rest other one back (sym lo) (sym location)) in
    let tails : AreAlike rest more = λ a. elim (cases_lt a s.hi) as (λ _. location_in rest a ≡ location_in more a) [
      | inl low ↦ rest_above s rest a one low ∙ sym (rest_above t more a other (omega (arith, low, hi)))
      | inr from ↦ sym (after s rest a from) ∙ alike a ∙ after t more a (omega (arith, from, hi))
    ] in
    let behind = one_list rest more (rest_ascends s rest one) (rest_ascends t more other) tails in
    λ i. record { lo = lo i; hi = hi i; location = location i } ∷ behind i
