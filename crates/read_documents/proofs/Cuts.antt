-- A text is cut at its first LF.
use Rattle.std.proofs.Common.{◌≡◌, ℕ, ◌+◌, ◌-◌, ◌<◌, ◌≤◌, ◌==◌, Bool, true, false, not, cond, ltb, List, [], ◌∷◌, length, get_or, take, drop, Some, None, All}
use Rattle.std.proofs.Common.{refl, sym, ap, ◌∙◌, arith}
use Rattle.std.specs.Prelude.{position}
use Rattle.std.specs.List.{position_or_len, slice_split, before_first, after_first}
use Rattle.std.specs.Str.Lines.{lines, lines_of_parts, strip_carriage_return}
use Rattle.std.proofs.lemmas.Bool.{ltb-true, ltb-false, ne_eqb}
use Rattle.std.proofs.lemmas.List.{take_rest, drop_all}
use Rattle.std.proofs.lemmas.List.Elements.{All-from_get_or}
use Rattle.std.proofs.lemmas.List.Sums.{prefix_len_passes}
use Rattle.std.proofs.lemmas.List.Splits.{slice_split_first, slice_split_none, length-slice_split}

-- a part that isn't the last is a line without its carriage return
pub lines_of_parts-more : (part : List ℕ) (parts : List (List ℕ)) → 0 < length parts → lines_of_parts (part ∷ parts) ≡ strip_carriage_return part ∷ lines_of_parts
    parts
lines_of_parts-more part [] some = absurd (omega arith)
lines_of_parts-more part (next ∷ parts) some = refl

-- where the first LF stands
found_at : (text : List ℕ) (end : ℕ) (found : Bool) → ltb (position_or_len (λ b. b == 10) text) (length text) ≡ found →
    Some end ≡ cond found (Some (position_or_len (λ b. b == 10) text)) None
    → (end ≡ position_or_len (λ b. b == 10) text) × (end < length text)
found_at text end true e is = let same : end ≡ position_or_len (λ b. b == 10) text = cc in (same, omega (arith, ltb-true _ _ e))
found_at text end false e is = absurd cc

pub none_found : (text : List ℕ) (found : Bool) → ltb (position_or_len (λ b. b == 10) text) (length text) ≡ found →
    None ≡ cond found (Some (position_or_len (λ b. b == 10) text)) None
    → length text ≤ position_or_len (λ b. b == 10) text
none_found text true e is = absurd cc
none_found text false e is = ltb-false _ _ e

pub lines-cut : (text : List ℕ) (end : ℕ) → Some end ≡ position (λ b. b == 10) text → lines text ≡ strip_carriage_return (take end text) ∷ lines (take (length
    text - (end + 1)) (drop (end + 1) text))
lines-cut text end is =
    let f = found_at text end _ refl is in
    let p = λ (b : ℕ). b == 10 in
    let parts = ap lines_of_parts (slice_split_first p text 0 (omega (arith, f.0, f.1))) in
    let more : 0 < length (slice_split p (after_first p text)) = omega (arith, length-slice_split p (after_first p text)) in
    parts ∙ lines_of_parts-more (before_first p text) (slice_split p (after_first p text)) more ∙ rw (take_rest text (end + 1), f.0) refl

not_true : (b : Bool) → not b ≡ true → b ≡ false
not_true true e = absurd cc
not_true false e = refl

pub no_line_feed : (text : List ℕ) → length text ≤ position_or_len (λ b. b == 10) text → All (λ b. (b == 10) ≡ false) text
no_line_feed text all = All-from_get_or (λ b. (b == 10) ≡ false) text 0 (λ k lt. not_true (get_or text k 0 == 10) (prefix_len_passes (λ b. not (b ==
    10)) text k 0 (omega arith)))

pub last_part : (text : List ℕ) → 0 < length text → lines_of_parts (text ∷ []) ≡ text ∷ []
last_part text some = let long : length text ≡ 0 → ⊥ = λ e. omega arith in rw (ne_eqb (length text) 0 long) refl

pub lines-last : (text : List ℕ) → 0 < length text → None ≡ position (λ b. b == 10) text →
    lines text ≡ text ∷ lines (take (length text - length text) (drop (length text) text))
lines-last text some is =
    let all = no_line_feed text (none_found text _ refl is) in
    let nothing : take (length text - length text) (drop (length text) text) ≡ [] = take_rest text (length text) ∙ drop_all (length text) text (omega arith) in
    ap lines_of_parts (slice_split_none (λ b. b == 10) text all) ∙ last_part text some ∙ ap (λ (rest : List ℕ). text ∷ lines rest) (sym nothing)
