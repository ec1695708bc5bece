-- The lines of a text that is made of lines.
use Rattle.std.proofs.Common.{◌≡◌, ℕ, suc, ◌+◌, ◌-◌, Bool, true, false, not, cond, eqb, ◌&&◌, List, [], ◌∷◌, ◌++◌, length, take, All, get_or}
use Rattle.std.proofs.Common.{refl, sym, ap, subst, ◌∙◌, arith, append_assoc}
use Rattle.std.specs.List.{list_all, slice_split, suffix_len}
use Rattle.std.specs.Str.Lines.{lines, lines_of_parts, strip_carriage_return}
use Rattle.std.proofs.lemmas.Bool.{and_parts}
use Rattle.std.proofs.lemmas.Bool.Decides.{nat_tests}
use Rattle.std.proofs.lemmas.List.{length-append, get_or_push}
use Rattle.std.proofs.lemmas.List.Elements.{All-nil, All-cons, All-head, All-tail}
use Rattle.std.proofs.lemmas.List.Folds.{list_all-append}
use Rattle.std.proofs.lemmas.List.Splits.{slice_split_at, length-slice_split}
use Rattle.std.proofs.lemmas.List.Sums.{suffix_len-take_no}
use Rattle.read_lexer.specs.declared.line.Line.{Line}
use Rattle.read_documents.specs.Lines.{trimmed, numbered, lines_of}
use Rattle.read_documents.proofs.Cuts.{lines_of_parts-more}
use Rattle.readback_functions.specs.Document.{is_printed, ends_visibly, IsLine, text_of_lines, lines_from}

-- ---- the last byte of a line

record Pushed (line : List ℕ) : Type 0 where
  front : List ℕ
  byte : ℕ
  parts : line ≡ front ++ byte ∷ []

last_of : (b : ℕ) (bs : List ℕ) → Pushed (b ∷ bs)
last_of b [] = record { front = []; byte = b; parts = refl }
last_of b (x ∷ bs) = let p = last_of x bs in record { front = b ∷ p.front; byte = p.byte; parts = ap (λ (l : List ℕ). b ∷ l) p.parts }

ends_by : (so_far : Bool) (front : List ℕ) (byte : ℕ) → ends_visibly so_far (front ++ byte ∷ []) ≡ not (eqb byte 32)
ends_by so_far [] byte = refl
ends_by so_far (x ∷ front) byte = ends_by (not (eqb x 32)) front byte

not_true : (b : Bool) → not b ≡ true → b ≡ false
not_true true e = absurd cc
not_true false e = refl

no_feed : (b : ℕ) → is_printed b ≡ true → eqb b 10 ≡ false
no_feed b is = grind (arith, nat_tests, is)

no_return : (b : ℕ) → is_printed b ≡ true → eqb b 13 ≡ false
no_return b is = grind (arith, nat_tests, is)

no_feeds : (line : List ℕ) → list_all is_printed line ≡ true → All (λ b. eqb b 10 ≡ false) line
no_feeds [] all = All-nil (λ b. eqb b 10 ≡ false)
no_feeds (b ∷ bs) all =
    let parts = and_parts (is_printed b) (list_all is_printed bs) all in
    All-cons (λ b. eqb b 10 ≡ false) b bs (no_feed b parts.0) (no_feeds bs parts.1)

take_all : (xs : List ℕ) → take (length xs) xs ≡ xs
take_all [] = refl
take_all (x ∷ xs) = ap (λ (l : List ℕ). x ∷ l) (take_all xs)

-- a line with a last byte keeps it
record Whole (line : List ℕ) : Type 0 where
  returns : strip_carriage_return line ≡ line
  spaces : trimmed line ≡ line

pushed_whole : (front : List ℕ) (byte : ℕ) → is_printed byte ≡ true → eqb byte 32 ≡ false → Whole (front ++ byte ∷ [])
pushed_whole front byte printed visible = record {
  returns =
      let last = get_or_push front byte 0 (length (front ++ byte ∷ []) - 1) at in
      ap (λ (b : ℕ). cond (eqb b 13) (take (length (front ++ byte ∷ []) - 1) (front ++ byte ∷ [])) (front ++ byte ∷ [])) last
      ∙ ap (λ (t : Bool). cond t (take (length (front ++ byte ∷ []) - 1) (front ++ byte ∷ [])) (front ++ byte ∷ [])) (no_return byte printed);
  spaces =
      let last : get_or (front ++ byte ∷ []) (length (front ++ byte ∷ []) - 1) 0 ≡ byte = get_or_push front byte 0 (length (front ++ byte ∷ []) - 1) at in
      let none = suffix_len-take_no (λ b. eqb b 32) (front ++ byte ∷ []) (length (front ++ byte ∷ [])) 0 (omega (arith, size)) (omega arith)
      (ap (λ (b : ℕ). eqb b 32) last ∙ visible) in
      let whole : suffix_len (λ b. eqb b 32) (front ++ byte ∷ []) ≡ 0 =
      ap (suffix_len (λ b. eqb b 32)) (sym (take_all (front ++ byte ∷ []))) ∙ none in
      ap (λ (n : ℕ). take n (front ++ byte ∷ [])) (let e : length (front ++ byte ∷ []) - suffix_len (λ b. eqb b 32) (front ++ byte ∷ []) ≡ length
      (front ++ byte ∷ []) =
      omega (arith, whole) in e)
      ∙ take_all (front ++ byte ∷ []);
} where
  size : length (front ++ byte ∷ []) ≡ length front + 1
  size = length-append front (byte ∷ [])

  at : length front ≡ length (front ++ byte ∷ []) - 1
  at = omega (arith, size)

whole : (line : List ℕ) → IsLine line → Whole line
whole [] is = record { returns = refl; spaces = refl }
whole (b ∷ bs) is = by (last_of b bs) where
  by : Pushed (b ∷ bs) → Whole (b ∷ bs)
  by p =
      let ends = sym (ends_by true p.front p.byte) ∙ ap (ends_visibly true) (sym p.parts) ∙ is.ends in
      let all : (list_all is_printed p.front && (is_printed p.byte && true)) ≡ true =
      sym (list_all-append is_printed p.front (p.byte ∷ [])) ∙ ap (list_all is_printed) (sym p.parts) ∙ is.printed in
      let last = and_parts (list_all is_printed p.front) (is_printed p.byte && true) all in
      let printed = and_parts (is_printed p.byte) true last.1 in
      subst Whole (sym p.parts) (pushed_whole p.front p.byte printed.0 (not_true (eqb p.byte 32) ends))

-- ---- all lines

lines_whole : (ls : List (List ℕ)) → All IsLine ls → lines (text_of_lines ls) ≡ ls
lines_whole [] all = refl
lines_whole (l ∷ ls) all =
    let is = All-head IsLine l ls all in
    let rest = text_of_lines ls in
    let p = λ (b : ℕ). eqb b 10 in
    ap lines (append_assoc l (10 ∷ []) rest)
    ∙ (ap lines_of_parts (slice_split_at p l 10 rest (no_feeds l is.printed) refl)
    ∙ (lines_of_parts-more l (slice_split p rest) (omega (arith, length-slice_split p rest))
    ∙ (λ i. (whole l is).returns i ∷ lines_whole ls (All-tail IsLine l ls all) i)))

numbered_whole : (n : ℕ) (ls : List (List ℕ)) → All IsLine ls → numbered n ls ≡ lines_from n ls
numbered_whole n [] all = refl
numbered_whole n (l ∷ ls) all = λ i. record { number = n; text = (whole l (All-head IsLine l ls all)).spaces i } ∷ numbered_whole (n + 1) ls
    (All-tail IsLine l ls all) i

-- the lines of a text of lines are these lines
pub lines_are : (ls : List (List ℕ)) → All IsLine ls → lines_of (text_of_lines ls) ≡ lines_from 1 ls
lines_are ls all = ap (numbered 1) (lines_whole ls all) ∙ numbered_whole 1 ls all

-- ---- numbers of lines

pub lines_from-append : (n : ℕ) (xs ys : List (List ℕ)) → lines_from n (xs ++ ys) ≡ lines_from n xs ++ lines_from (n + length xs) ys
lines_from-append n [] ys = ap (λ (k : ℕ). lines_from k ys) (let e : n ≡ n + 0 = omega arith in e)
lines_from-append n (x ∷ xs) ys = ap (λ (l : List Line). record { number = n; text = x } ∷ l) (lines_from-append (n + 1) xs ys
    ∙ ap (λ (k : ℕ). lines_from (n + 1) xs ++ lines_from k ys) (let e : n + 1 + length xs ≡ n + suc (length xs) = omega arith in e))
