-- What stands at an index of a list with one more item at its end.
use Rattle.std.proofs.Common.{◌≡◌, ℕ, ◌<◌, List, [], ◌∷◌, ◌++◌, length, Bool, true, false, refl, sym, subst, arith, length-append, eqb}
use Rattle.std.proofs.Common.{ltb-true, ltb-false}
use Rattle.std.specs.Prelude.{slice_index_or, nat_lt}
use Rattle.std.proofs.lemmas.List.{get_or_append_left, get_or_past}
use Rattle.std.proofs.Math.Seq.{get_or-append_seam}
use Rattle.std.proofs.lemmas.Bool.{eqb-true, eqb-false}

pub at_push : {A : Type 0} (xs : List A) (y d : A) (i : ℕ) → (P : A → Type 0) → (i < length xs → P (slice_index_or xs i d)) → (i ≡ length xs → P y) →
    (length xs < i → P d) → P (slice_index_or (xs ++ y ∷ []) i d)
at_push xs y d i P below here above = by_case (eqb i (length xs)) (nat_lt i (length xs)) refl refl where
  by_case : (e l : Bool) → eqb i (length xs) ≡ e → nat_lt i (length xs) ≡ l → P (slice_index_or (xs ++ y ∷ []) i d)
  by_case true l e h =
      let same = eqb-true i (length xs) e in
      subst (λ (k : ℕ). P (slice_index_or (xs ++ y ∷ []) k d)) (sym same) (subst P (sym (get_or-append_seam xs y [] d)) (here same))
  by_case false true e h = let less = ltb-true i (length xs) h in subst P (sym (get_or_append_left xs (y ∷ []) d i less)) (below less)
  by_case false false e h =
      let far : length xs < i = omega (arith, eqb-false i (length xs) e, ltb-false i (length xs) h) in
      subst P (sym (get_or_past (xs ++ y ∷ []) i d (simp length-append (omega arith)))) (above far)
