-- What a loop that filters has after one more element.
use Rattle.std.proofs.Common.{◌≡◌, ℕ, ◌+◌, ◌<◌, List, [], ◌∷◌, ◌++◌, length, get_or, take, Option, sym, ap, ◌∙◌, append_assoc}
use Rattle.std.specs.List.{filter_map, cons_option}
use Rattle.std.proofs.lemmas.List.{take_more}
use Rattle.std.proofs.lemmas.List.Elements.{filter_map-append}

pub filter_map_turn : {X Y : Type 0} (h : X → Option Y) (xs : List X) (i : ℕ) (x : X) (ys zs t : List Y) → i < length xs → x ≡ get_or xs i x →
    ys ≡ t ++ filter_map h (take i xs) → zs ≡ ys ++ cons_option (h x) [] → zs ≡ t ++ filter_map h (take (i + 1) xs)
filter_map_turn {X} {Y} h xs i x ys zs t l e so_far more =
    let one : take (i + 1) xs ≡ take i xs ++ x ∷ [] = take_more xs i x l ∙ ap (λ (y : X). take i xs ++ y ∷ []) (sym e) in
    let f : filter_map h (take (i + 1) xs) ≡ filter_map h (take i xs) ++ cons_option (h x) [] =
    ap (filter_map h) one ∙ filter_map-append h (take i xs) (x ∷ []) in
    more ∙ (ap (λ (ws : List Y). ws ++ cons_option (h x) []) so_far ∙ (append_assoc t (filter_map h (take i xs)) (cons_option (h x) []) ∙ ap
    (λ (ws : List Y). t ++ ws) (sym f)))
