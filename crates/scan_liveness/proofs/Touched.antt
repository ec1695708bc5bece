-- Loops over registers: extents that are changed, and bits of a mask.
use Rattle.std.proofs.Common.{◌≡◌, ◌⊎◌, inl, inr, ℕ, ◌+◌, ◌*◌, ◌^◌, ◌%◌, ◌<◌, ◌≤◌, List, length, slice_index_or, slice_set, Option, None, Bool, true, false, cond}
use Rattle.std.proofs.Common.{◌||◌, ◌&&◌, nat_eq, bit_or, w32, refl, sym, ap, ◌∙◌, subst, arith}
use Rattle.std.specs.Int.{bit_at}
use Rattle.std.proofs.lemmas.Bool.{cases_eq, cases_lt, eq-eqb, ne_eqb}
use Rattle.std.proofs.lemmas.List.{get_or-set_other, get_or-set_same, length-set}
use Rattle.std.proofs.lemmas.Nat.Bits.{bit_at_set_same, bit_at_set_other, bit_at-zero}
use Rattle.scan_intervals.specs.Blocked.{has_register}
use Rattle.scan_liveness.specs.declared.extents.Extent.{Extent}

-- ---- extents

-- the extents of the registers up to an index are changed so
pub record Updated (change : ℕ → Option Extent → Option Extent) (old new : List (Option Extent)) (count : ℕ) : Type 0 where
  pub long : length new ≡ length old
  pub done : (j : ℕ) → j < count → slice_index_or new j None ≡ change j (slice_index_or old j None)
  pub left : (j : ℕ) → count ≤ j → slice_index_or new j None ≡ slice_index_or old j None

pub updated_begins : (change : ℕ → Option Extent → Option Extent) (old : List (Option Extent)) → Updated change old old 0
updated_begins change old = record { long = refl; done = λ j lt. absurd (omega (arith, lt)); left = λ j le. refl }

pub updated_goes_on : {change : ℕ → Option Extent → Option Extent} {old new : List (Option Extent)} {k : ℕ} → Updated change old new k → k < length old →
    (more : List (Option Extent)) → more ≡ slice_set new k (change k (slice_index_or new k None)) → Updated change old more (k + 1)
updated_goes_on {change} {old} {new} {k} w lt more e = record {
  long = ap length e ∙ length-set new k v ∙ w.long;
  done = λ j less. elim (cases_eq j k) as (λ _. slice_index_or more j None ≡ change j (slice_index_or old j None)) [
    | inl same ↦
        ap (λ (xs : List (Option Extent)). slice_index_or xs j None) e ∙ ap (λ (m : ℕ). slice_index_or (slice_set new k v) m None) same ∙
        get_or-set_same new k v None (omega (arith, lt, w.long)) ∙ ap (change k) (w.left k (omega arith)) ∙
        ap (λ (m : ℕ). change m (slice_index_or old m None)) (sym same)
    | inr ne ↦
        ap (λ (xs : List (Option Extent)). slice_index_or xs j None) e ∙ get_or-set_other new k j v None ne ∙ w.done j (before j ne less)
  ];
  left = λ j le.
      ap (λ (xs : List (Option Extent)). slice_index_or xs j None) e ∙
      get_or-set_other new k j v None (λ same. omega (arith, same, le)) ∙ w.left j (omega (arith, le));
} where
  v : Option Extent
  v = change k (slice_index_or new k None)

  least : (m n : ℕ) → (m ≡ n → ⊥) → m ≤ n → m < n
  least m n ne le = by_difference (cases_lt m n) where
    by_difference : (m < n) ⊎ (n ≤ m) → m < n
    by_difference (inl h) = h
    by_difference (inr h) = absurd (ne (omega (arith, le, h)))

  before : (j : ℕ) → (j ≡ k → ⊥) → j < k + 1 → j < k
  before j ne less = least j k ne (omega (arith, less))

pub updated_ends : {change : ℕ → Option Extent → Option Extent} {old new : List (Option Extent)} {k : ℕ} → Updated change old new k → length old ≤ k →
    (j : ℕ) → j < length old → slice_index_or new j None ≡ change j (slice_index_or old j None)
updated_ends {change} {old} {new} {k} w le j lt = w.done j (omega (arith, le, lt))

-- one extent is changed
pub one_changed : (change : ℕ → Option Extent → Option Extent) (old new : List (Option Extent)) (k : ℕ) → k < length old →
    new ≡ slice_set old k (change k (slice_index_or old k None)) → (j : ℕ) → j < length old →
    slice_index_or new j None ≡ cond (nat_eq k j) (change j (slice_index_or old j None)) (slice_index_or old j None)
one_changed change old new k lt e j less =
    ap (λ (xs : List (Option Extent)). slice_index_or xs j None) e ∙ by_case (cases_eq k j) where
      v : Option Extent
      v = change k (slice_index_or old k None)

      by_case : (k ≡ j) ⊎ (k ≡ j → ⊥) → slice_index_or (slice_set old k v) j None ≡
          cond (nat_eq k j) (change j (slice_index_or old j None)) (slice_index_or old j None)
      by_case (inl same) =
          ap (λ (m : ℕ). slice_index_or (slice_set old k v) m None) (sym same) ∙ get_or-set_same old k v None lt ∙
          ap (λ (m : ℕ). change m (slice_index_or old m None)) same ∙
          sym (ap (λ (z : Bool). cond z (change j (slice_index_or old j None)) (slice_index_or old j None)) (eq-eqb k j same))
      by_case (inr ne) =
          get_or-set_other old k j v None (λ same. ne (sym same)) ∙
          sym (ap (λ (z : Bool). cond z (change j (slice_index_or old j None)) (slice_index_or old j None)) (ne_eqb k j ne))

-- an extent that isn't changed
pub none_changed : (change : ℕ → Option Extent → Option Extent) (old : List (Option Extent)) (r j : ℕ) → (r ≡ j + 32 → ⊥) →
    slice_index_or old j None ≡ cond (nat_eq r (j + 32)) (change j (slice_index_or old j None)) (slice_index_or old j None)
none_changed change old r j ne =
    sym (ap (λ (z : Bool). cond z (change j (slice_index_or old j None)) (slice_index_or old j None)) (ne_eqb r (j + 32) ne))

-- the register of an index is counted from x32
pub counted : (r k j : ℕ) → k + 32 ≡ r → nat_eq k j ≡ nat_eq r (j + 32)
counted r k j e = elim (cases_eq k j) as (λ _. nat_eq k j ≡ nat_eq r (j + 32)) [
  | inl same ↦ eq-eqb k j same ∙ sym (eq-eqb r (j + 32) (omega (arith, e, same)))
  | inr ne ↦ ne_eqb k j ne ∙ sym (ne_eqb r (j + 32) (λ same. ne (omega (arith, e, same))))
]

-- ---- masks

-- the bits up to one are right, and no further one is set
pub record Masked (blocked : ℕ → Bool) (mask count : ℕ) : Type 0 where
  pub done : (q : ℕ) → q < count → has_register q mask ≡ blocked q
  pub left : (q : ℕ) → count ≤ q → has_register q mask ≡ false

pub masked_begins : (blocked : ℕ → Bool) → Masked blocked 0 0
masked_begins blocked = record {
  done = λ q lt. absurd (omega (arith, lt));
  left = λ q le. ap (λ (b : ℕ). nat_eq b 1) (bit_at-zero q);
}

or_none : (a b : Bool) → b ≡ false → ((a && true) || b) ≡ a
or_none true b e = refl
or_none false b e = e

and_none : (a b : Bool) → ((a && false) || b) ≡ b
and_none true b = refl
and_none false b = refl

pub masked_goes_on : {blocked : ℕ → Bool} {mask r : ℕ} → Masked blocked mask r → (more : ℕ) (t : Bool) → t ≡ blocked r →
    ((q : ℕ) → has_register q more ≡ ((t && nat_eq r q) || has_register q mask)) → Masked blocked more (r + 1)
masked_goes_on {blocked} {mask} {r} w more t is e = record {
  done = λ q less. elim (cases_eq r q) as (λ _. has_register q more ≡ blocked q) [
    | inl same ↦
        e q ∙ ap (λ (z : Bool). (t && z) || has_register q mask) (eq-eqb r q same) ∙ or_none t (has_register q mask) (w.left q (omega (arith, same))) ∙
        is ∙ ap blocked same
    | inr ne ↦
        e q ∙ ap (λ (z : Bool). (t && z) || has_register q mask) (ne_eqb r q ne) ∙ and_none t (has_register q mask) ∙ w.done q (before q ne less)
  ];
  left = λ q le.
      e q ∙ ap (λ (z : Bool). (t && z) || has_register q mask) (ne_eqb r q (λ same. omega (arith, same, le))) ∙ and_none t (has_register q mask) ∙
      w.left q (omega (arith, le));
} where
  before : (q : ℕ) → (r ≡ q → ⊥) → q < r + 1 → q < r
  before q ne less = by_difference (cases_lt q r) where
    by_difference : (q < r) ⊎ (r ≤ q) → q < r
    by_difference (inl h) = h
    by_difference (inr h) = absurd (ne (omega (arith, less, h)))

pub bit_set : (mask r : ℕ) → r < 32 → (q : ℕ) → has_register q (bit_or mask (1 * 2 ^ r % 4294967296)) ≡ (nat_eq r q || has_register q mask)
bit_set mask r lt q = elim (cases_eq r q) as (λ _. has_register q (bit_or mask (1 * 2 ^ r % 4294967296)) ≡ (nat_eq r q || has_register q mask)) [
  | inl same ↦
      ap (λ (j : ℕ). nat_eq (bit_at (bit_or mask (1 * 2 ^ r % 4294967296)) j) 1) (sym same) ∙ ap (λ (x : ℕ). nat_eq x 1) (bit_at_set_same w32 mask r lt) ∙
      sym (ap (λ (t : Bool). t || has_register q mask) (eq-eqb r q same))
  | inr ne ↦
      ap (λ (x : ℕ). nat_eq x 1) (bit_at_set_other w32 mask r lt q (λ same. ne (sym same))) ∙
      sym (ap (λ (t : Bool). t || has_register q mask) (ne_eqb r q ne))
]
