-- Steps of the loop that clears the classes of registers.
use Rattle.std.proofs.Common.{◌≡◌, ℕ, ◌+◌, ◌<◌, List, length, get_or, arith, refl, sym, ◌∙◌, ap, subst, inl, inr, get_or-set_same, get_or-set_other}
use Rattle.std.specs.Prelude.{Bool, true, false, cond, nat_lt, slice_set}
use Rattle.std.proofs.lemmas.Bool.{cases_lt}
use Rattle.std.proofs.lemmas.Bool.Decides.{nat_tests, eqb_tells}

-- up to an index the classes that a test picks are cleared
abbrev pub ClearedBelow : (lost : ℕ → Bool) → (old : List ℕ) → ℕ → List ℕ → Type 0
ClearedBelow lost old r places = (j : ℕ) → get_or places j 0 ≡ cond (nat_lt j r) (cond (lost j) 0 (get_or old j 0)) (get_or old j 0)

below_next : (a b : ℕ) (j r : ℕ) → (j ≡ r → ⊥) → cond (nat_lt j r) a b ≡ cond (nat_lt j (r + 1)) a b
below_next a b j r ne = elim (cases_lt j r) [
  | inl lt ↦ let h : nat_lt j r ≡ true = grind (arith, nat_tests, lt) in let k : nat_lt j (r + 1) ≡ true = grind (arith, nat_tests, lt) in rw (h, k) refl
  | inr le ↦ let h : nat_lt j r ≡ false = grind (arith, nat_tests, le) in let k : nat_lt j (r + 1) ≡ false = grind (arith, nat_tests, le, ne) in rw (h, k) refl
]

at_next : (a b r : ℕ) → cond (nat_lt r (r + 1)) a b ≡ a
at_next a b r = let k : nat_lt r (r + 1) ≡ true = grind (arith, nat_tests) in rw k refl

at_this : (a b r : ℕ) → cond (nat_lt r r) a b ≡ b
at_this a b r = let k : nat_lt r r ≡ false = grind (arith, nat_tests) in rw k refl

module _ (lost : ℕ → Bool) (old : List ℕ) (r : ℕ) (places : List ℕ) (cleared : ClearedBelow lost old r places) where
  pub cleared_set : r < length places → lost r ≡ true → ClearedBelow lost old (r + 1) (slice_set places r 0)
  cleared_set room on j = elim (eqb_tells j r) [
    | inl h ↦ subst (λ (z : ℕ). get_or (slice_set places r 0) z 0 ≡ cond (nat_lt z (r + 1)) (cond (lost z) 0 (get_or old z 0)) (get_or old z 0)) (sym h.1)
        (get_or-set_same places r 0 0 room
        ∙ sym (at_next (cond (lost r) 0 (get_or old r 0)) (get_or old r 0) r ∙ ap (λ (z : Bool). cond z 0 (get_or old r 0)) on))
    | inr h ↦ get_or-set_other places r j 0 0 h.1 ∙ (cleared j ∙ below_next (cond (lost j) 0 (get_or old j 0)) (get_or old j 0) j r h.1)
  ]

  pub cleared_kept : lost r ≡ false → ClearedBelow lost old (r + 1) places
  cleared_kept off j = elim (eqb_tells j r) [
    | inl h ↦ subst (λ (z : ℕ). get_or places z 0 ≡ cond (nat_lt z (r + 1)) (cond (lost z) 0 (get_or old z 0)) (get_or old z 0)) (sym h.1)
        (cleared r ∙ (at_this (cond (lost r) 0 (get_or old r 0)) (get_or old r 0) r
        ∙ sym (at_next (cond (lost r) 0 (get_or old r 0)) (get_or old r 0) r ∙ ap (λ (z : Bool). cond z 0 (get_or old r 0)) off)))
    | inr h ↦ cleared j ∙ below_next (cond (lost j) 0 (get_or old j 0)) (get_or old j 0) j r h.1
  ]
