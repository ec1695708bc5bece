-- What a loop that changes each element of a list in place has after one more.
use Rattle.std.proofs.Common.{◌≡◌, ℕ, zero, suc, ◌<◌, List, [], ◌∷◌, ◌++◌, length, get_or, take, drop, map, refl, ap, ◌∙◌, arith}

standing : {X : Type 0} (f : X → X) (xs : List X) (k : ℕ) (d : X) → k < length xs → get_or (map f (take k xs) ++ drop k xs) k d ≡ get_or xs k d
standing f [] k d lt = absurd (omega (arith, lt))
standing f (x ∷ xs) zero d lt = refl
standing f (x ∷ xs) (suc k) d lt = standing f xs k d (omega (arith, lt))

-- what comes next is as it was
pub map_at : {X : Type 0} (f : X → X) (xs ys : List X) (k : ℕ) (x : X) → k < length xs → ys ≡ map f (take k xs) ++ drop k xs → x ≡ get_or ys k x →
    x ≡ get_or xs k x
map_at {X} f xs ys k x lt so_far is = is ∙ (ap (λ (zs : List X). get_or zs k x) so_far ∙ standing f xs k x lt)
