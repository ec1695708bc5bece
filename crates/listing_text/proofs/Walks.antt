-- A walk over a list that appends the text of each item.
use Rattle.std.specs.List.{flat_map}
use Rattle.std.proofs.Common.{◌≡◌, ℕ, ◌+◌, ◌<◌, List, ◌∷◌, ◌++◌, length, get_or, drop, ap, sym, ◌∙◌, append_assoc}
use Rattle.std.proofs.lemmas.List.{drop_more}

-- one item more: what is appended and the texts of the items that are left are together the same as before
pub one_more : {X : Type 0} (f : X → List ℕ) (xs : List X) (i : ℕ) (x : X) (mid new whole : List ℕ) → i < length xs → get_or xs i x ≡ x →
    mid ++ flat_map f (drop i xs) ≡ whole → new ≡ mid ++ f x → new ++ flat_map f (drop (i + 1) xs) ≡ whole
one_more {X} f xs i x mid new whole below is before step =
    let left : drop i xs ≡ x ∷ drop (i + 1) xs = drop_more xs i x below ∙ ap (λ (y : X). y ∷ drop (i + 1) xs) is in
    ap (λ (t : List ℕ). t ++ flat_map f (drop (i + 1) xs)) step ∙ (append_assoc mid (f x) (flat_map f (drop (i + 1) xs)) ∙
    (sym (ap (λ (ys : List X). mid ++ flat_map f ys) left) ∙ before))
