-- A table is emptied from its front.
use Rattle.std.proofs.Common.{◌≡◌, ℕ, ◌+◌, ◌<◌, ◌≤◌, List, length, sym, ◌∙◌, subst, inl, inr, arith}
use Rattle.std.specs.Prelude.{Option, None, slice_index_or, slice_set}
use Rattle.std.proofs.lemmas.Bool.{cases_lt}
use Rattle.std.proofs.lemmas.Bool.Decides.{eqb_tells}
use Rattle.std.proofs.lemmas.List.{get_or_past, get_or-set_same, get_or-set_other}

module _ {T : Type 0} (xs : List (Option T)) (i : ℕ) (empty : (k : ℕ) → k < i → slice_index_or xs k None ≡ None) where
  -- one place more
  pub cleared_more : i < length xs → (k : ℕ) → k < i + 1 → slice_index_or (slice_set xs i None) k None ≡ None
  cleared_more inside k less = elim (eqb_tells k i) [
    | inl h ↦ subst (λ (n : ℕ). slice_index_or (slice_set xs i None) n None ≡ None) (sym h.1) (get_or-set_same xs i None None inside)
    | inr h ↦
        let ne = h.1 in
        get_or-set_other xs i k None None ne ∙ empty k (omega (arith, less, ne))
  ]

  -- all of them
  pub cleared_all : length xs ≤ i → (k : ℕ) → slice_index_or xs k None ≡ None
  cleared_all end k = elim (cases_lt k (length xs)) [
    | inl less ↦ empty k (omega (arith, less, end))
    | inr far ↦ get_or_past xs k None far
  ]
