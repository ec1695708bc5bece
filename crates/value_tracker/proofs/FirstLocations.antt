-- First locations below an end hold of all locations, if those from the end on have no class.
use Rattle.std.proofs.Common.{◌≡◌, ◌≢◌, ℕ, ◌<◌, ◌≤◌, List, length, arith, refl, sym, ◌∙◌, subst, inl, inr}
use Rattle.std.specs.Prelude.{Option, Some, None, slice_index}
use Rattle.std.proofs.lemmas.Bool.{cases_lt}
use Rattle.value_tracker.specs.LowestLocation.{IsFirstBelow}

module _ (places : List ℕ) (end : ℕ) (rest : (i : ℕ) → end ≤ i → slice_index places i ≡ 0) (within : end ≤ length places) where
  -- of a class but 0
  pub first_of_all : (c : ℕ) (o : Option ℕ) → c ≢ 0 → IsFirstBelow end places c o → IsFirstBelow (length places) places c o
  first_of_all c (Some k) other is = (is.0, omega (arith, is.1, within), is.2, is.3)
  first_of_all c None other none = λ i some lt is. elim (cases_lt i end) [
    | inl below ↦ none i some below is
    | inr le ↦ other (sym is ∙ rest i le)
  ]

  -- of class 0, which the location at the end has
  pub first_of_zero : (old new : Option ℕ) → 0 < end → end < length places → IsFirstBelow end places 0 old → (old ≡ None → new ≡ Some end) →
      (old ≢ None → new ≡ old) →
      IsFirstBelow (length places) places 0 new
  first_of_zero (Some k) new some less is first later =
      let same : Some k ≡ new = sym (later (λ e. let no : Some k ≡ None = e in cc)) in
      subst (IsFirstBelow (length places) places 0) same (is.0, omega (arith, is.1, within), is.2, is.3)
  first_of_zero None new some less none first later =
      subst (IsFirstBelow (length places) places 0) (sym (first refl)) (some, less, rest end (omega arith), none)

  -- of any class, if the end is that of all
  pub first_at_end : (c : ℕ) (o : Option ℕ) → length places ≤ end → IsFirstBelow end places c o → IsFirstBelow (length places) places c o
  first_at_end c o le is = let same : end ≡ length places = omega (arith, le, within) in subst (λ (n : ℕ). IsFirstBelow n places c o) same is
