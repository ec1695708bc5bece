-- Lists with their sizes, one by one.
use Rattle.std.proofs.Common.{◌≡◌, ℕ, zero, suc, ◌+◌, List, [], ◌∷◌, ◌++◌, length, arith, ap}
use Rattle.std.specs.Prelude.{All}
use Rattle.std.proofs.lemmas.List.Elements.{All-nil, All-cons}
use Rattle.dwarf_loclists.specs.declared.range.Range.{Range}
use Rattle.sized_lists.specs.declared.list.SizedList.{SizedList}
use Rattle.sized_lists.specs.Sized.{size_at, sized}

-- one more list has the size at its index
pub one_more : (sizes : List ℕ) (k n : ℕ) (lists : List (List Range)) (ranges : List Range) → k + length lists ≡ n
    → sized sizes k (lists ++ ranges ∷ []) ≡ sized sizes k lists ++ record { size = size_at sizes n; ranges = ranges } ∷ []
one_more sizes k n [] ranges counted =
    let same : k ≡ n = omega (arith, counted) in
    ap (λ (m : ℕ). record { size = size_at sizes m; ranges = ranges } ∷ []) same
one_more sizes k n (l ∷ lists) ranges counted =
    ap (λ (more : List SizedList). record { size = size_at sizes k; ranges = l } ∷ more)
    (one_more sizes (k + 1) n lists ranges (omega (arith, counted)))

-- what is so of each list
pub ranges_have : (P : List Range → Type 0) (sizes : List ℕ) (k : ℕ) (lists : List (List Range)) → All P lists
    → All (λ (s : SizedList). P s.ranges) (sized sizes k lists)
ranges_have P sizes k [] all = All-nil (λ (s : SizedList). P s.ranges)
ranges_have P sizes k (l ∷ lists) all =
    All-cons (λ (s : SizedList). P s.ranges) (record { size = size_at sizes k; ranges = l }) (sized sizes (k + 1) lists) (all 0 l (omega arith))
    (ranges_have P sizes (k + 1) lists (λ i d within. all (suc i) d (omega (arith, within))))

-- what is so of each size, if it is so of eight bytes
pub sizes_have : (P : ℕ → Type 0) (sizes : List ℕ) (k : ℕ) (lists : List (List Range)) → ((i : ℕ) → P (size_at sizes i))
    → All (λ (s : SizedList). P s.size) (sized sizes k lists)
sizes_have P sizes k [] all = All-nil (λ (s : SizedList). P s.size)
sizes_have P sizes k (l ∷ lists) all =
    All-cons (λ (s : SizedList). P s.size) (record { size = size_at sizes k; ranges = l }) (sized sizes (k + 1) lists) (all k)
    (sizes_have P sizes (k + 1) lists all)

-- a size at an index is one of the sizes, or eight bytes
pub size_has : (P : ℕ → Type 0) (sizes : List ℕ) → All P sizes → P 8 → (k : ℕ) → P (size_at sizes k)
size_has P [] all eight k = eight
size_has P (n ∷ sizes) all eight zero = all 0 n (omega arith)
size_has P (n ∷ sizes) all eight (suc k) = size_has P sizes (λ i d within. all (suc i) d (omega (arith, within))) eight k
