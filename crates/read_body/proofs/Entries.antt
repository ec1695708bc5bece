-- Entries are looked at one after the other.
use Rattle.std.proofs.Common.{◌≡◌, ℕ, ◌+◌, ◌<◌, ◌≤◌, List, [], ◌∷◌, length, get_or, drop, sym, ap, ◌∙◌}
use Rattle.std.proofs.lemmas.List.{drop_more, drop_all}

-- a walk over entries, by what it makes of one more and of none
module _ {S E : Type 0} (walk : S → List E → S) (step : S → E → S)
    (more : (s : S) (e : E) (es : List E) → walk s (e ∷ es) ≡ walk (step s e) es) (none : (s : S) → walk s [] ≡ s)
    (es : List E) (i : ℕ) (here : E) (s end : S) where
  pub one_more : (next : S) → i < length es → here ≡ get_or es i here → walk s (drop i es) ≡ end → next ≡ step s here → walk next (drop (i + 1) es) ≡ end
  one_more next lt is so_far made =
      let parts : drop i es ≡ here ∷ drop (i + 1) es = drop_more es i here lt ∙ ap (λ (x : E). x ∷ drop (i + 1) es) (sym is) in
      ap (λ (x : S). walk x (drop (i + 1) es)) made ∙ sym (more s here (drop (i + 1) es)) ∙ ap (walk s) (sym parts) ∙ so_far

  pub no_more : length es ≤ i → walk s (drop i es) ≡ end → s ≡ end
  no_more all so_far = sym (none s) ∙ ap (walk s) (sym (drop_all i es all)) ∙ so_far
