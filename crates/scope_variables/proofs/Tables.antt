-- The variables of scopes, as far as nodes were walked.
use Rattle.std.proofs.Common.{◌≡◌, ℕ, ◌+◌, ◌<◌, Bool, true, false, cond, List, [], ◌∷◌, ◌++◌, length, get_or, take, filter, refl, sym, ap, ◌∙◌, append-nil}
use Rattle.std.proofs.lemmas.List.{take_more}
use Rattle.std.proofs.lemmas.List.Elements.{filter-append}
use Rattle.scope_variables.specs.steps.Table.{with_node}

with_filtered : (b : Bool) (ys : List ℕ) (x : ℕ) → with_node b ys x ≡ ys ++ cond b (x ∷ []) []
with_filtered true ys x = refl
with_filtered false ys x = sym (append-nil ys)

-- one more node that passes a test or doesn't
pub filter_turn : (p : ℕ → Bool) (xs : List ℕ) (i x : ℕ) (old new : List ℕ) → i < length xs → x ≡ get_or xs i x → old ≡ filter p (take i xs)
    → new ≡ with_node (p x) old x → new ≡ filter p (take (i + 1) xs)
filter_turn p xs i x old new lt here are longer =
    longer
    ∙ with_filtered (p x) old x
    ∙ ap (λ (ys : List ℕ). ys ++ filter p (x ∷ [])) are
    ∙ sym (filter-append p (take i xs) (x ∷ []))
    ∙ ap (λ (y : ℕ). filter p (take i xs ++ y ∷ [])) here
    ∙ ap (filter p) (sym (take_more xs i x lt))
