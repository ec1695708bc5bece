-- What a loop that changes each element of a list in place has after one more.
use Rattle.std.proofs.Common.{◌≡◌, ℕ, zero, suc, ◌+◌, ◌<◌, List, [], ◌∷◌, ◌++◌, length, get_or, set, take, drop, map, refl, sym, ap, ◌∙◌, arith}

pub drop_none : {X : Type 0} (xs : List X) → drop 0 xs ≡ xs
drop_none [] = refl
drop_none (x ∷ xs) = refl

pub take_none : {X : Type 0} (xs : List X) → take 0 xs ≡ []
take_none [] = refl
take_none (x ∷ xs) = refl

pub turned : {X : Type 0} (f : X → X) (xs : List X) (k : ℕ) (d : X) → k < length xs →
    set (map f (take k xs) ++ drop k xs) k (f (get_or (map f (take k xs) ++ drop k xs) k d)) ≡ map f (take (suc k) xs) ++ drop (suc k) xs
turned f [] k d lt = absurd (omega (arith, lt))
turned f (x ∷ xs) zero d lt = refl
turned f (x ∷ xs) (suc k) d lt = ap (λ ys. f x ∷ ys) (turned f xs k d (omega (arith, lt)))

pub map_turn : {X : Type 0} (f : X → X) (xs ys : List X) (k : ℕ) (x : X) → k < length xs → ys ≡ map f (take k xs) ++ drop k xs → x ≡ get_or ys k x →
    set ys k (f x) ≡ map f (take (k + 1) xs) ++ drop (k + 1) xs
map_turn {X} f xs ys k x lt so_far is =
    let next : k + 1 ≡ suc k = omega arith in
    let e : f x ≡ f (get_or (map f (take k xs) ++ drop k xs) k x) = ap f (is ∙ ap (λ (zs : List X). get_or zs k x) so_far) in
    let one : set ys k (f x) ≡ set (map f (take k xs) ++ drop k xs) k (f (get_or (map f (take k xs) ++ drop k xs) k x)) = λ i. set (so_far i) k (e i) in
    one ∙ turned f xs k x lt ∙ ap (λ (n : ℕ). map f (take n xs) ++ drop n xs) (sym next)
