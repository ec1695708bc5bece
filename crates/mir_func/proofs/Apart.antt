-- Lists in which no number stands twice, and their sets.
use Rattle.std.proofs.Common.{◌≡◌, ◌↔◌, ℕ, zero, suc, ◌<◌, ◌≢◌, nat_eq, List, [], ◌∷◌, length, Some, get_or, IsTrue, refl, sym, ap, ◌∙◌, inl, inr, arith}
use Rattle.std.specs.Prelude.{Contains}
use Rattle.std.specs.List.{slice_get, AllPairs}
use Rattle.std.specs.Bool.{Decides}
use Rattle.std.specs.Ordering.{nat_cmp, eq_by_cmp, MatchOrdering}
use Rattle.std.specs.BTreeSet.{BTreeSet, btree_set_len, IsFromIterResult, contains}
use Rattle.std.proofs.lemmas.Bool.{eqb-true, eq-eqb, cases_order}
use Rattle.std.proofs.lemmas.Bool.Decides.{nat_tests}
use Rattle.std.proofs.lemmas.Cmp.{nat_cmp_total, ranked, eq_by_cmp_equiv}
use Rattle.std.proofs.lemmas.Map.Made.{IsDistinct-from_count, distinct_count-from_IsDistinct, AllPairs-from_IsDistinct, IsDistinct-from_AllPairs}
use Rattle.std.proofs.lemmas.Map.Made.{is_member-Decides}
use Rattle.std.proofs.lemmas.Map.Views.{btree_set_len-from_list}
use Rattle.mir_func.specs.Sound.{AreApart}

pub same : (a b : ℕ) → Decides (eq_by_cmp nat_cmp a b) (a ≡ b)
same a b =
    let r : MatchOrdering (nat_cmp a b) (a < b) (a ≡ b) (b < a) = ranked a b (nat_cmp a b) refl in
    (grind (arith, nat_tests), grind (arith, nat_tests))

slice_get-at : (xs : List ℕ) (i d : ℕ) → i < length xs → slice_get xs i ≡ Some (get_or xs i d)
slice_get-at [] i d l = absurd (omega arith)
slice_get-at (x ∷ xs) zero d l = refl
slice_get-at (x ∷ xs) (suc i) d l = slice_get-at xs i d (omega arith)

pub at_slice_get : (xs : List ℕ) (i n : ℕ) → slice_get xs i ≡ Some n → (i < length xs) × ((d : ℕ) → get_or xs i d ≡ n)
at_slice_get [] i n e = absurd cc
at_slice_get (x ∷ xs) zero n e = (omega arith, λ d. cc)
at_slice_get (x ∷ xs) (suc i) n e = let r = at_slice_get xs i n e in (let l : i < length xs = r.0 in omega arith, r.1)

pairs_from_apart : (xs : List ℕ) → AreApart xs → AllPairs (λ x y. x ≢ y) xs
pairs_from_apart xs h i j d l m e =
    let a = slice_get-at xs i d (omega arith) in
    let b = slice_get-at xs j d m in
    let k : i ≡ j = h i j (get_or xs j d) (a ∙ ap (λ (n : ℕ). Some n) e) b in
    omega arith

apart_from_pairs : (xs : List ℕ) → AllPairs (λ x y. x ≢ y) xs → AreApart xs
apart_from_pairs xs h i j n e f =
    let a = at_slice_get xs i n e in
    let b = at_slice_get xs j n f in
    elim (cases_order i j) [
      | inl s ↦ s
      | inr (inl l) ↦ absurd (h i j 0 l b.0 (a.1 0 ∙ sym (b.1 0)))
      | inr (inr l) ↦ absurd (h j i 0 l a.0 (b.1 0 ∙ sym (a.1 0)))
    ]

-- the size of a list's set says whether no number stands twice
pub apart_by_size : (xs : List ℕ) (s : BTreeSet ℕ) (m n : ℕ) → IsFromIterResult nat_cmp xs s → m ≡ btree_set_len s → n ≡ length xs →
    IsTrue (nat_eq m n) ↔ AreApart xs
apart_by_size xs s m n made size len =
    let count = size ∙ btree_set_len-from_list nat_cmp_total xs s made in (
      λ t. apart_from_pairs xs (AllPairs-from_IsDistinct same xs (IsDistinct-from_count (eq_by_cmp_equiv nat_cmp_total) xs (sym count ∙ eqb-true m n t ∙ len))),
      λ h. eq-eqb m n (count ∙ distinct_count-from_IsDistinct (eq_by_cmp_equiv nat_cmp_total) xs (IsDistinct-from_AllPairs same xs (pairs_from_apart xs h))
          ∙ sym len),
    )

-- a list's set has what the list has
pub set_has : (xs : List ℕ) (s : BTreeSet ℕ) (q : ℕ) → IsFromIterResult nat_cmp xs s → IsTrue (contains nat_cmp s q) ↔ Contains xs q
set_has xs s q made =
    let d = is_member-Decides same xs q in
    (λ t. d.0 (sym (made.0 q) ∙ t), λ h. made.0 q ∙ d.1 h)
