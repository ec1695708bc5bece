-- Marks of blocks: the worklist of the sweeps.
use Rattle.std.proofs.Common.{◌≡◌, ℕ, ◌+◌, ◌<◌, ◌≤◌, List, length, Bool, true, false, refl, sym, ap, ◌∙◌, arith, eqb, ltb-true, ltb-false}
use Rattle.std.specs.Prelude.{slice_index_or, slice_set, nat_lt, Contains}
use Rattle.std.proofs.lemmas.Bool.{false≢true, eqb-true, eqb-false}
use Rattle.std.proofs.lemmas.List.{get_or-set_same, get_or-set_other, get_or_default}
use Rattle.std.proofs.Math.ListN.{length-set}

-- so many of the ways are marked
pub record IsMarked (ways : List ℕ) (k : ℕ) (old new : List Bool) : Type 0 where
  pub long : length new ≡ length old
  pub marked : (c : ℕ) → slice_index_or new c true ≡ false → (slice_index_or old c true ≡ false) × ((j : ℕ) → j < k → slice_index_or ways j 0 ≡ c → ⊥)

pub marked_none : (ways : List ℕ) (old : List Bool) → IsMarked ways 0 old old
marked_none ways old = record { long = refl; marked = λ c e. (e, λ j less. absurd (omega arith)) }

pub marked_more : (ways : List ℕ) (k : ℕ) (old new : List Bool) → slice_index_or ways k 0 < length new → IsMarked ways k old new →
    IsMarked ways (k + 1) old (slice_set new (slice_index_or ways k 0) true)
marked_more ways k old new less m = record {
  long = length-set new (slice_index_or ways k 0) true ∙ m.long;
  marked = λ c e. by_case c e (eqb c (slice_index_or ways k 0)) refl;
} where
  by_case : (c : ℕ) → slice_index_or (slice_set new (slice_index_or ways k 0) true) c true ≡ false → (z : Bool) → eqb c (slice_index_or ways k 0) ≡ z →
      (slice_index_or old c true ≡ false) × ((j : ℕ) → j < k + 1 → slice_index_or ways j 0 ≡ c → ⊥)
  by_case c e true is =
      let here = eqb-true c (slice_index_or ways k 0) is in
      absurd (false≢true (sym e ∙ ap (λ (i : ℕ). slice_index_or (slice_set new (slice_index_or ways k 0) true) i true) here
      ∙ get_or-set_same new (slice_index_or ways k 0) true true less))
  by_case c e false other =
      let apart = eqb-false c (slice_index_or ways k 0) other in
      let (clean, none) = m.marked c (sym (get_or-set_other new (slice_index_or ways k 0) c true true apart) ∙ e) in
      (clean, λ j far is. in_turn c j far is none apart (nat_lt j k) refl) where
        in_turn : (c j : ℕ) → j < k + 1 → slice_index_or ways j 0 ≡ c → ((j : ℕ) → j < k → slice_index_or ways j 0 ≡ c → ⊥) →
            (c ≡ slice_index_or ways k 0 → ⊥) →
            (z : Bool) → nat_lt j k ≡ z → ⊥
        in_turn c j far is none apart true h = none j (ltb-true j k h) is
        in_turn c j far is none apart false h =
            let same : j ≡ k = omega (arith, ltb-false j k h) in apart (sym is ∙ ap (λ (i : ℕ). slice_index_or ways i 0) same)

pub marked_all : (ways : List ℕ) (k : ℕ) (old new : List Bool) → length ways ≤ k → IsMarked ways k old new →
    (c : ℕ) → slice_index_or new c true ≡ false → (slice_index_or old c true ≡ false) × (Contains ways c → ⊥)
marked_all ways k old new far m c e =
    let (clean, none) = m.marked c e in
    (clean, λ (j, less, is). none j (omega arith) (get_or_default ways j 0 c less ∙ is))
