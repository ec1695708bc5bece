-- Steps of loops over the places.
use Rattle.std.proofs.Common.{◌*◌, ◌-◌, ◌/◌, ◌%◌, eq-eqb, ne_eqb}
use Rattle.std.proofs.Common.{◌≡◌, ℕ, ◌+◌, ◌<◌, List, length, get_or, arith, refl, sym, ◌∙◌, ap, subst, inl, inr, get_or-set_same, get_or-set_other}
use Rattle.std.specs.Prelude.{Bool, true, false, ◌&&◌, ◌||◌, cond, nat_eq, nat_le, nat_lt, slice_set}
use Rattle.std.proofs.lemmas.Bool.{cases_lt, le-leb, lt-leb}
use Rattle.std.proofs.lemmas.Bool.Decides.{nat_tests, eqb_tells}

-- up to an index the registers that a test picks have classes of their own
abbrev pub RenewedBelow : (saved : ℕ → Bool) → (next : ℕ) → (old : List ℕ) → ℕ → List ℕ → Type 0
RenewedBelow saved next old r places = (j : ℕ) → get_or places j 0 ≡ cond (nat_lt j r) (cond (saved j) (next + j) (get_or old j 0)) (get_or old j 0)

below_next : (a b : ℕ) (j r : ℕ) → (j ≡ r → ⊥) → cond (nat_lt j r) a b ≡ cond (nat_lt j (r + 1)) a b
below_next a b j r ne = elim (cases_lt j r) [
  | inl lt ↦ let h : nat_lt j r ≡ true = grind (arith, nat_tests, lt) in let k : nat_lt j (r + 1) ≡ true = grind (arith, nat_tests, lt) in rw (h, k) refl
  | inr le ↦ let h : nat_lt j r ≡ false = grind (arith, nat_tests, le) in let k : nat_lt j (r + 1) ≡ false = grind (arith, nat_tests, le, ne) in rw (h, k) refl
]

at_next : (a b r : ℕ) → cond (nat_lt r (r + 1)) a b ≡ a
at_next a b r = let k : nat_lt r (r + 1) ≡ true = grind (arith, nat_tests) in rw k refl

at_this : (a b r : ℕ) → cond (nat_lt r r) a b ≡ b
at_this a b r = let k : nat_lt r r ≡ false = grind (arith, nat_tests) in rw k refl

module _ (saved : ℕ → Bool) (next : ℕ) (old : List ℕ) (r : ℕ) (places : List ℕ) (renewed : RenewedBelow saved next old r places) where
  pub renewed_set : r < length places → saved r ≡ true → RenewedBelow saved next old (r + 1) (slice_set places r (next + r))
  renewed_set room on j = elim (eqb_tells j r) [
    | inl h ↦ subst (λ (z : ℕ). get_or (slice_set places r (next + r)) z 0 ≡ cond (nat_lt z (r + 1)) (cond (saved z) (next + z) (get_or old z 0))
        (get_or old z 0)) (sym h.1)
        (get_or-set_same places r (next + r) 0 room ∙
        sym (at_next (cond (saved r) (next + r) (get_or old r 0)) (get_or old r 0) r ∙ ap (λ (z : Bool). cond z (next + r) (get_or old r 0)) on))
    | inr h ↦ get_or-set_other places r j (next + r) 0 h.1 ∙ (renewed j ∙ below_next (cond (saved j) (next + j) (get_or old j 0)) (get_or old j 0) j r h.1)
  ]

  pub renewed_kept : saved r ≡ false → RenewedBelow saved next old (r + 1) places
  renewed_kept off j = elim (eqb_tells j r) [
    | inl h ↦ subst (λ (z : ℕ). get_or places z 0 ≡ cond (nat_lt z (r + 1)) (cond (saved z) (next + z) (get_or old z 0)) (get_or old z 0)) (sym h.1)
        (renewed r ∙ (at_this (cond (saved r) (next + r) (get_or old r 0)) (get_or old r 0) r ∙
        sym (at_next (cond (saved r) (next + r) (get_or old r 0)) (get_or old r 0) r ∙ ap (λ (z : Bool). cond z (next + r) (get_or old r 0)) off)))
    | inr h ↦ renewed j ∙ below_next (cond (saved j) (next + j) (get_or old j 0)) (get_or old j 0) j r h.1
  ]

-- ---- slots that are passed

-- the doubleword at an offset
pub slot_at : (n i : ℕ) → n % 8 ≡ 0 → nat_eq i (32 + n / 8) ≡ (nat_le 32 i && nat_eq (8 * (i - 32)) n)
slot_at n i e = elim (eqb_tells i (32 + n / 8)) [
  | inl h ↦
      let le : nat_le 32 i ≡ true = le-leb 32 i (omega (arith, h.1)) in
      let at : nat_eq (8 * (i - 32)) n ≡ true = eq-eqb (8 * (i - 32)) n (omega (arith, h.1, e)) in
      h.0 ∙ sym (λ j. le j && at j)
  | inr h ↦ h.0 ∙ sym (elim (cases_lt i 32) as (λ _. (nat_le 32 i && nat_eq (8 * (i - 32)) n) ≡ false) [
    | inr le ↦ both_false (nat_le 32 i) (nat_eq (8 * (i - 32)) n) (ne_eqb (8 * (i - 32)) n (λ same. h.1 (omega (arith, same, le))))
    | inl lt ↦ ap (λ (b : Bool). b && nat_eq (8 * (i - 32)) n) (lt-leb 32 i lt)
  ])
] where
  both_false : (a b : Bool) → b ≡ false → (a && b) ≡ false
  both_false true b f = f
  both_false false b f = refl

-- where no doubleword is
pub no_slot_at : (n i : ℕ) → (n % 8 ≡ 0 → ⊥) → (nat_le 32 i && nat_eq (8 * (i - 32)) n) ≡ false
no_slot_at n i off = by (nat_le 32 i) where
  by : (a : Bool) → (a && nat_eq (8 * (i - 32)) n) ≡ false
  by true = ne_eqb (8 * (i - 32)) n (λ same. off (omega (arith, same)))
  by false = refl

-- one more operand
pub cleared_more : (le a b : Bool) (x : ℕ) → cond (le && b) 0 (cond (le && a) 0 x) ≡ cond (le && (a || b)) 0 x
cleared_more false a b x = refl
cleared_more true true true x = refl
cleared_more true true false x = refl
cleared_more true false b x = refl
