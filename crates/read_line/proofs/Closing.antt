-- Brackets are passed over from left to right.
use Rattle.std.proofs.Common.{◌≡◌, ℕ, ◌+◌, ◌-◌, ◌<◌, ◌≤◌, List, ◌∷◌, length, get_or, take, drop, Some, None, refl, sym, ap, ◌∙◌}
use Rattle.std.proofs.lemmas.List.{drop_more, drop_all, take_rest}
use Rattle.read_token.specs.declared.lexeme.Lexeme.{Lexeme}
use Rattle.read_line.specs.Bracket.{inner_behind, behind_bracket}

-- a bracket stays open behind a lexeme
pub goes_on : (ts : List Lexeme) (i inner more : ℕ) (t d : Lexeme) → i < length ts → t ≡ get_or ts i d → Some more ≡ inner_behind inner t
    → behind_bracket inner (drop i ts) ≡ behind_bracket 0 ts → behind_bracket more (drop (i + 1) ts) ≡ behind_bracket 0 ts
unfolding behind_bracket
goes_on ts i inner more t d lt is depth read =
    let split : drop i ts ≡ t ∷ drop (i + 1) ts = drop_more ts i d lt ∙ ap (λ (x : Lexeme). x ∷ drop (i + 1) ts) (sym is) in
    let step : behind_bracket inner (drop i ts) ≡ behind_bracket more (drop (i + 1) ts) = rw (split, ← depth) refl in
    sym step ∙ read

-- a lexeme closes the bracket
pub closed : (ts : List Lexeme) (i inner : ℕ) (t d : Lexeme) → i < length ts → t ≡ get_or ts i d → None ≡ inner_behind inner t
    → behind_bracket inner (drop i ts) ≡ behind_bracket 0 ts → behind_bracket 0 ts ≡ Some (take (length ts - (i + 1)) (drop (i + 1) ts))
unfolding behind_bracket
closed ts i inner t d lt is depth read =
    let split : drop i ts ≡ t ∷ drop (i + 1) ts = drop_more ts i d lt ∙ ap (λ (x : Lexeme). x ∷ drop (i + 1) ts) (sym is) in
    let step : behind_bracket inner (drop i ts) ≡ Some (drop (i + 1) ts) = rw (split, ← depth) refl in
    sym read ∙ step ∙ ap (λ (r : List Lexeme). Some r) (sym (take_rest ts (i + 1)))

-- no lexeme closes it
pub never_closed : (ts : List Lexeme) (i inner : ℕ) → length ts ≤ i → behind_bracket inner (drop i ts) ≡ behind_bracket 0 ts → behind_bracket 0 ts ≡ None
unfolding behind_bracket
never_closed ts i inner all read = sym read ∙ ap (behind_bracket inner) (drop_all i ts all)
