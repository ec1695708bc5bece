-- A line is cut at a mark outside quotes, from left to right.
use Rattle.std.proofs.Common.{◌≡◌, ℕ, ◌+◌, ◌-◌, ◌<◌, ◌≤◌, Bool, true, false, cond, List, [], ◌∷◌, ◌++◌, length, get_or, take, drop, Option, refl, sym, ap, ◌∙◌}
use Rattle.std.proofs.Common.{append_assoc}
use Rattle.std.proofs.lemmas.List.{append-nil, drop_more, drop_all, take_more, take_all, take_rest}
use Rattle.std.specs.Prelude.{◌&&◌, ◌||◌, is_none, nat_eq}
use Rattle.std.specs.List.{list_any, starts_with}
use Rattle.std.specs.Cmp.Lexicographic.{pointwise}
use Rattle.std.proofs.lemmas.Bool.{eqb-false, ne_eqb, false≢true}
use Rattle.read_lexer.specs.Comment.{before, is_cut, quote_behind}

at_front : (mark : List ℕ) (open_quote : Option ℕ) (b : ℕ) (bs : List ℕ) (cut : Bool) → is_cut mark open_quote (b ∷ bs) ≡ cut →
    before mark open_quote (b ∷ bs) ≡ cond cut [] (b ∷ before mark (quote_behind open_quote b) bs)
unfolding before
at_front mark open_quote b bs cut is = ap (λ (z : Bool). cond z [] (b ∷ before mark (quote_behind open_quote b) bs)) is

module _ (mark line : List ℕ) (open_quote : Option ℕ) (at : ℕ) where
  at_place : (cut : Bool) → at < length line → is_cut mark open_quote (take (length line - at) (drop at line)) ≡ cut
      → before mark open_quote (drop at line) ≡ cond cut [] (get_or line at 0 ∷ before mark (quote_behind open_quote (get_or line at 0)) (drop (at + 1) line))
  at_place cut lt is =
      let front = drop_more line at 0 lt in
      let there : is_cut mark open_quote (get_or line at 0 ∷ drop (at + 1) line) ≡ cut = ap (is_cut mark open_quote) (sym front) ∙
      ap (is_cut mark open_quote) (sym (take_rest line at)) ∙ is in
      ap (before mark open_quote) front ∙ at_front mark open_quote (get_or line at 0) (drop (at + 1) line) cut there

  -- nothing is cut at a place
  pub goes_on : at < length line → is_cut mark open_quote (take (length line - at) (drop at line)) ≡ false
      → take (at + 1) line ++ before mark (quote_behind open_quote (get_or line at 0)) (drop (at + 1) line) ≡ take at line ++
      before mark open_quote (drop at line)
  goes_on lt uncut = rw (at_place false lt uncut, take_more line at 0 lt, append_assoc) refl

  -- the line is cut at a place
  pub cuts : at < length line → is_cut mark open_quote (take (length line - at) (drop at line)) ≡ true →
      take at line ≡ take at line ++ before mark open_quote (drop at line)
  cuts lt cut = rw (at_place true lt cut) (sym (append-nil (take at line)))

  -- nothing is cut up to the end
  pub whole : length line ≤ at → line ≡ take at line ++ before mark open_quote (drop at line)
  unfolding before
  whole le = rw (take_all at line le, drop_all at line le) (sym (append-nil line))

-- ---- a line without the mark's first byte isn't cut

both_false : (x y : Bool) → (x || y) ≡ false → (x ≡ false) × (y ≡ false)
both_false false y e = (refl, e)
both_false true y e = absurd (false≢true (sym e))

and_false : (z w : Bool) → w ≡ false → (z && w) ≡ false
and_false true w e = e
and_false false w e = refl

uncut_here : (m : ℕ) (ms : List ℕ) (open_quote : Option ℕ) (b : ℕ) (bs : List ℕ) → nat_eq b m ≡ false → is_cut (m ∷ ms) open_quote (b ∷ bs) ≡ false
uncut_here m ms open_quote b bs other =
    let apart : nat_eq m b ≡ false = ne_eqb m b (λ same. eqb-false b m other (sym same)) in
    and_false (is_none open_quote) (starts_with nat_eq (b ∷ bs) (m ∷ ms)) (ap (λ (z : Bool). z && pointwise nat_eq ms (take (length ms) bs)) apart)

pub uncut : (m : ℕ) (ms : List ℕ) (open_quote : Option ℕ) (line : List ℕ) → list_any (λ b. nat_eq b m) line ≡ false →
    before (m ∷ ms) open_quote line ≡ line
unfolding before
uncut m ms open_quote [] none = refl
uncut m ms open_quote (b ∷ bs) none =
    let parts = both_false (nat_eq b m) (list_any (λ c. nat_eq c m) bs) none in
    at_front (m ∷ ms) open_quote b bs false (uncut_here m ms open_quote b bs parts.0)
    ∙ ap (λ (z : List ℕ). b ∷ z) (uncut m ms (quote_behind open_quote b) bs parts.1)
