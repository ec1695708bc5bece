use Rattle.std.proofs.Common.{
  ◌≡◌,
  ◌≢◌,
  ◌<◌,
  ◌≤◌,
  ◌+◌,
  ℕ,
  None,
  Some,
  List,
  length,
  get_or,
  arith,
  refl,
  ap,
  subst,
  sym,
  ◌∙◌,
  inl,
  inr,
  get_or-set_same,
  get_or-set_other,
}
use Rattle.std.specs.Prelude.{Option, slice_set}
use Rattle.std.proofs.lemmas.Bool.Decides.{eqb_tells}
use Rattle.value_tracker.specs.LowestLocation.{IsFirstBelow}
use Rattle.value_tracker.proofs.lowest_location.empty.Goals as goal

-- what a table has is a place of its class from an index on
abbrev Left : List ℕ → List (Option ℕ) → ℕ → Type 0
Left places firsts i = (c k : ℕ) → get_or firsts c None ≡ Some k → (i ≤ k) × (k < length places) × (get_or places k 0 ≡ c)

left_on : (places : List ℕ) (firsts : List (Option ℕ)) (i : ℕ) → get_or places i 0 < length firsts → Left places firsts i →
    Left places (slice_set firsts (get_or places i 0) None) (i + 1)
left_on places firsts i room left c k e = elim (eqb_tells c (get_or places i 0)) [
  | inl h ↦ absurd (
      let none : get_or (slice_set firsts (get_or places i 0) None) (get_or places i 0) None ≡ None = get_or-set_same firsts
      (get_or places i 0) None None room in
      let some : get_or (slice_set firsts (get_or places i 0) None) (get_or places i 0) None ≡ Some k =
      subst (λ (z : ℕ). get_or (slice_set firsts (get_or places i 0) None) z None ≡ Some k) h.1 e in
      cc)
  | inr h ↦
      let was : get_or firsts c None ≡ Some k = sym (get_or-set_other firsts (get_or places i 0) c None None h.1) ∙ e in
      let l = left c k was in
      let ne : k ≡ i → ⊥ = λ is. h.1 (sym l.2 ∙ subst (λ (z : ℕ). get_or places z 0 ≡ get_or places i 0) (sym is) refl) in
      (omega (arith, l.0, ne), l.1, l.2)
]

first_left : (places : List ℕ) (firsts : List (Option ℕ)) → ((c : ℕ) → IsFirstBelow (length places) places c (get_or firsts c None)) → Left places firsts 1
first_left places firsts are c k e = by_first (get_or firsts c None) e (are c) where
  by_first : (o : Option ℕ) → o ≡ Some k → IsFirstBelow (length places) places c o → (1 ≤ k) × (k < length places) × (get_or places k 0 ≡ c)
  by_first None e h = cc
  by_first (Some j) e h = let is : j ≡ k = cc in (
    subst (λ (z : ℕ). 1 ≤ z) is (omega (arith, h.0)),
    subst (λ (z : ℕ). z < length places) is h.1,
    subst (λ (z : ℕ). get_or places z 0 ≡ c) is h.2,
  )

none_left : (places : List ℕ) (firsts : List (Option ℕ)) (end i : ℕ) → end ≤ i → ((k : ℕ) → end ≤ k → get_or places k 0 ≡ 0) → Left places firsts i →
    (c : ℕ) → c ≢ 0 → get_or firsts c None ≡ None
none_left places firsts end i past rest left c other = by_first (get_or firsts c None) refl where
  by_first : (o : Option ℕ) → get_or firsts c None ≡ o → o ≡ None
  by_first None e = refl
  by_first (Some k) e = let l = left c k e in absurd (other (sym l.2 ∙ rest k (omega (arith, l.0, past))))

pub loop-i-init : goal.loop-i-init
loop-i-init c = first_left c.args.places.now c.args.firsts.now c.requires.filled

pub loop-i-preserved : goal.loop-i-preserved
loop-i-preserved c = left_on c.args.places.now c.loop-i.firsts c.loop-i.i (omega
    (arith, c.requires.room c.loop-i.i (omega (arith, c.loop-i-test.true, c.requires.within)), c.loop-i.auto.firsts)) c.loop-i.invariant

pub returns : goal.returns
returns c = λ k. elim (eqb_tells k 0) [
  | inl h ↦ ap (λ (n : ℕ). get_or c.clear_first.new.firsts n None) h.1 ∙ c.clear_first.ensures.none
  | inr h ↦
      c.clear_first.ensures.others k h.1
      ∙ none_left c.args.places.now c.loop-i.firsts c.args.end c.loop-i.i c.loop-i-test.false c.requires.rest c.loop-i.invariant k h.1
]
