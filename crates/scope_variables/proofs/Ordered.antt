-- The variables of a scope stand in order.
use Rattle.std.proofs.Common.{◌≡◌, ℕ, List, [], ◌∷◌, map, refl, ap, ◌∙◌, Ordering, Less, Equal, Greater}
use Rattle.std.specs.List.{AllByRecursion}
use Rattle.std.specs.List.Sorted.{IsStrictlySortedBy}
use Rattle.std.specs.Cmp.{IsTotalOrder}
use Rattle.std.specs.Ordering.{match_ordering, ordering_reverse}
use Rattle.std.specs.BTreeSet.{insert_key}
use Rattle.std.proofs.lemmas.Cmp.{nat_cmp_total, on_total, then_total}
use Rattle.scope_variables.specs.Order.{by_rank, in_order, key}
use Rattle.scope_variables.specs.Laws.{VariablesStandInOrder}

total : IsTotalOrder by_rank
total = then_total (on_total (λ (k : ℕ × ℕ). k.0) nat_cmp_total) (on_total (λ (k : ℕ × ℕ). k.1) nat_cmp_total)

inserted_all_by : (P : ℕ × ℕ → Type 0) (x : ℕ × ℕ) (xs : List (ℕ × ℕ)) (k : ℕ × ℕ) (o : Ordering) → P x → AllByRecursion P xs → P k
    → AllByRecursion P (insert_key by_rank xs k) → AllByRecursion P (match_ordering o (k ∷ x ∷ xs) (x ∷ xs) (x ∷ insert_key by_rank xs k))
inserted_all_by P x xs k Less first all new rest = (new, (first, all))
inserted_all_by P x xs k Equal first all new rest = (first, all)
inserted_all_by P x xs k Greater first all new rest = (first, rest)

inserted_all : (P : ℕ × ℕ → Type 0) (xs : List (ℕ × ℕ)) (k : ℕ × ℕ) → AllByRecursion P xs → P k → AllByRecursion P (insert_key by_rank xs k)
inserted_all P [] k all new = (new, tt)
inserted_all P (x ∷ xs) k all new = inserted_all_by P x xs k (by_rank k x) all.0 all.1 new (inserted_all P xs k all.1 new)

below_all : (k x : ℕ × ℕ) (xs : List (ℕ × ℕ)) → by_rank k x ≡ Less → AllByRecursion (λ y. by_rank x y ≡ Less) xs → AllByRecursion (λ y. by_rank k y ≡ Less) xs
below_all k x [] less all = tt
below_all k x (y ∷ ys) less all = (total.trans k x y less all.0, below_all k x ys less all.1)

inserted_by : (x : ℕ × ℕ) (xs : List (ℕ × ℕ)) (k : ℕ × ℕ) (o : Ordering) → by_rank k x ≡ o → AllByRecursion (λ y. by_rank x y ≡ Less) xs
    → IsStrictlySortedBy by_rank xs → IsStrictlySortedBy by_rank (insert_key by_rank xs k)
    → IsStrictlySortedBy by_rank (match_ordering o (k ∷ x ∷ xs) (x ∷ xs) (x ∷ insert_key by_rank xs k))
unfolding IsStrictlySortedBy
inserted_by x xs k Less e first sorted rest = ((e, below_all k x xs e first), (first, sorted))
inserted_by x xs k Equal e first sorted rest = (first, sorted)
inserted_by x xs k Greater e first sorted rest =
    (inserted_all (λ y. by_rank x y ≡ Less) xs k first (total.antisymm x k ∙ ap ordering_reverse e), rest)

inserted : (xs : List (ℕ × ℕ)) (k : ℕ × ℕ) → IsStrictlySortedBy by_rank xs → IsStrictlySortedBy by_rank (insert_key by_rank xs k)
unfolding IsStrictlySortedBy
inserted [] k sorted = (tt, tt)
inserted (x ∷ xs) k sorted = inserted_by x xs k (by_rank k x) refl sorted.0 sorted.1 (inserted xs k sorted.1)

in_order_sorted : (before ks : List (ℕ × ℕ)) → IsStrictlySortedBy by_rank before → IsStrictlySortedBy by_rank (in_order before ks)
in_order_sorted before [] sorted = sorted
in_order_sorted before (k ∷ ks) sorted = in_order_sorted (insert_key by_rank before k) ks (inserted before k sorted)

pub stand_in_order : VariablesStandInOrder
unfolding IsStrictlySortedBy
stand_in_order debug nodes = in_order_sorted [] (map (key debug) nodes) tt
