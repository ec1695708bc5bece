-- The first line of a text whose first LF is known, and the last one.
use Rattle.std.proofs.Common.{◌≡◌, ℕ, ◌+◌, ◌<◌, ◌==◌, true, false, List, [], ◌∷◌, ◌++◌, length, get_or, take, drop, Some, None, All, refl, sym}
use Rattle.std.proofs.Common.{ap, ◌∙◌, append_assoc, arith}
use Rattle.std.specs.Prelude.{position}
use Rattle.std.specs.List.{slice_split}
use Rattle.std.specs.Str.Lines.{lines, lines_of_parts, strip_carriage_return}
use Rattle.std.proofs.lemmas.Bool.{eqb-true}
use Rattle.std.proofs.lemmas.List.{drop_more, take-append-drop, get_or-take, length-take-le}
use Rattle.std.proofs.lemmas.List.Elements.{All-from_get_or}
use Rattle.std.proofs.lemmas.List.Quantifiers.{position-Some}
use Rattle.std.proofs.lemmas.List.Splits.{slice_split_at, slice_split_none, length-slice_split}
use Rattle.read_documents.proofs.Cuts.{lines_of_parts-more, last_part, none_found, no_line_feed}

-- a line that has ended, and the text behind it
pub lines-ended : (line rest : List ℕ) → All (λ b. (b == 10) ≡ false) line → lines (line ++ 10 ∷ rest) ≡ strip_carriage_return line ∷ lines rest
lines-ended line rest none =
    let p = λ (b : ℕ). b == 10 in
    let more : 0 < length (slice_split p rest) = omega (arith, length-slice_split p rest) in
    ap lines_of_parts (slice_split_at p line 10 rest none refl) ∙ lines_of_parts-more line (slice_split p rest) more

-- the bytes behind the last LF
pub lines-open : (line : List ℕ) → 0 < length line → All (λ b. (b == 10) ≡ false) line → lines line ≡ line ∷ []
lines-open line some none = ap lines_of_parts (slice_split_none (λ b. b == 10) line none) ∙ last_part line some

-- a text without an LF
pub none-without : (text : List ℕ) → None ≡ position (λ b. b == 10) text → All (λ b. (b == 10) ≡ false) text
none-without text is = no_line_feed text (none_found text _ refl is)

module _ (text : List ℕ) (end : ℕ) (is : Some end ≡ position (λ b. b == 10) text) where
  at_feed : (end < length text) × ((get_or text end 0 == 10) ≡ true) × ((k : ℕ) → k < end → (get_or text k 0 == 10) ≡ false)
  at_feed = position-Some (λ b. b == 10) text end 0 (sym is)

  before : (k : ℕ) → k < length (take end text) → (get_or (take end text) k 0 == 10) ≡ false
  before k lt =
      let below : k < end = omega (arith, length-take-le end text (omega (arith, at_feed.0)), lt) in
      ap (λ b. b == 10) (get_or-take end text k 0 below) ∙ at_feed.2 k below

  -- none stands before the first one
  pub none-before : All (λ b. (b == 10) ≡ false) (take end text)
  none-before = All-from_get_or (λ b. (b == 10) ≡ false) (take end text) 0 before

  -- the text is cut there
  pub cut-at : text ≡ take end text ++ 10 ∷ drop (end + 1) text
  cut-at =
      let behind : drop end text ≡ 10 ∷ drop (end + 1) text =
      drop_more text end 0 at_feed.0 ∙ ap (λ b. b ∷ drop (end + 1) text) (eqb-true _ _ at_feed.1) in
      sym (take-append-drop end text) ∙ ap (λ rest. take end text ++ rest) behind

  -- also behind what was passed before
  pub passed-line : (bytes passed : List ℕ) → bytes ≡ passed ++ text → bytes ≡ (passed ++ (take end text ++ 10 ∷ [])) ++ drop (end + 1) text
  passed-line bytes passed cut =
      let rest = drop (end + 1) text in
      cut ∙ ap (λ xs. passed ++ xs) (cut-at ∙ sym (append_assoc (take end text) (10 ∷ []) rest)) ∙ sym (append_assoc passed (take end text ++ 10 ∷ []) rest)
