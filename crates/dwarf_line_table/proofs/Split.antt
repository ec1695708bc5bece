-- What is left of a list from an index on.
use Rattle.std.proofs.Common.{◌≡◌, ℕ, suc, ◌+◌, ◌<◌, List, ◌∷◌, length, drop, get_or, sym, ◌∙◌, ap, arith, drop-cons}

pub split_at : {X : Type 0} (xs : List X) (i : ℕ) (x : X) → i < length xs → x ≡ get_or xs i x → drop i xs ≡ x ∷ drop (i + 1) xs
split_at xs i x inside here =
    let one : suc i ≡ i + 1 = omega arith in
    drop-cons xs i x inside ∙ (λ j. sym here j ∷ drop (suc i) xs) ∙ ap (λ n. x ∷ drop n xs) one
