-- The first place outside quotes where something stands is looked for from left to right.
use Rattle.std.proofs.Common.{◌≡◌, ℕ, ◌+◌, ◌-◌, ◌<◌, ◌≤◌, Bool, true, false, cond, List, ◌∷◌, length, get_or, take, drop, sym, ap, ◌∙◌, arith}
use Rattle.std.proofs.lemmas.List.{drop_more, drop_all, take_rest}
use Rattle.read_metadata.specs.Definition.{from_first, is_outside, quoted_behind}

at_front : (test : List ℕ → Bool) (quoted : Bool) (b : ℕ) (bs : List ℕ) (found : Bool) → is_outside test quoted (b ∷ bs) ≡ found
    → from_first test quoted (b ∷ bs) ≡ cond found (b ∷ bs) (from_first test (quoted_behind quoted b) bs)
unfolding from_first
at_front test quoted b bs found is = ap (λ (z : Bool). cond z (b ∷ bs) (from_first test (quoted_behind quoted b) bs)) is

module _ (test : List ℕ → Bool) (line : List ℕ) (quoted : Bool) (at : ℕ) where
  -- what begins at the place
  abbrev here : List ℕ
  here = take (length line - at) (drop at line)

  at_place : (found : Bool) → at < length line → is_outside test quoted here ≡ found
      → from_first test quoted (drop at line) ≡ cond found (get_or line at 0 ∷ drop (at + 1) line)
      (from_first test (quoted_behind quoted (get_or line at 0)) (drop (at + 1) line))
  at_place found lt is =
      let front = drop_more line at 0 lt in
      ap (from_first test quoted) front ∙ at_front test quoted (get_or line at 0) (drop (at + 1) line) found
      (ap (λ (r : List ℕ). is_outside test quoted r) (sym (take_rest line at ∙ front)) ∙ is)

  -- it stands at the place
  pub found_here : at < length line → is_outside test quoted here ≡ true → from_first test quoted (drop at line) ≡ from_first test false line →
      here ≡ from_first test false line
  found_here lt is read = take_rest line at ∙ drop_more line at 0 lt ∙ sym (at_place true lt is) ∙ read

  -- it doesn't stand at the place
  pub goes_on : at < length line → is_outside test quoted here ≡ false → from_first test quoted (drop at line) ≡ from_first test false line
      → from_first test (quoted_behind quoted (get_or line at 0)) (drop (at + 1) line) ≡ from_first test false line
  goes_on lt is read = sym (at_place false lt is) ∙ read

  -- it stands nowhere
  pub nowhere : length line ≤ at → from_first test quoted (drop at line) ≡ from_first test false line →
      take (length line - length line) (drop (length line) line) ≡ from_first test false line
  unfolding from_first
  nowhere all read =
      take_rest line (length line) ∙ drop_all (length line) line (omega arith) ∙ ap (from_first test quoted) (sym (drop_all at line all)) ∙ read
