-- The tokens of a line of pieces, by their places: each has the class and the text of its piece.
use Rattle.std.proofs.Common.{false, ◌≡◌, ℕ, zero, suc, ◌+◌, ◌-◌, List, [], ◌∷◌, ◌++◌, length, take, drop, replicate, Ok}
use Rattle.std.proofs.Common.{refl, sym, ap, ◌∙◌, arith, append_assoc}
use Rattle.std.specs.List.{slice_range}
use Rattle.std.proofs.lemmas.List.{length-append}
use Rattle.read_lexer.specs.declared.parts.Token.{Token}
use Rattle.read_lexer.specs.Line.{followed_by, tokens_from, tokens_of}
use Rattle.read_metadata.specs.Token.{text_of}
use Rattle.readback_items.proofs.Lexing.{Piece, spelled, AllRead, one_token, behind_blanks, taken, dropped}

-- the token of a piece whose blanks begin at a place
abbrev pub token_of : ℕ → Piece → Token
token_of at p = record { class = p.class; start = at + p.blanks; end = at + p.blanks + length p.text }

-- the tokens of pieces from a place on
abbrev pub tokens_at : ℕ → List Piece → List Token
tokens_at at [] = []
tokens_at at (p ∷ ps) = token_of at p ∷ tokens_at (at + p.blanks + length p.text) ps

-- the tokens of a line from a place on have the texts of pieces
abbrev pub HaveTexts : List ℕ → ℕ → List Piece → Type 0
HaveTexts line at [] = Unit {0}
HaveTexts line at (p ∷ ps) = (text_of line (token_of at p) ≡ p.text) × HaveTexts line (at + p.blanks + length p.text) ps

span_is : (front text rest : List ℕ) (from to : ℕ) → from ≡ length front → to ≡ length front + length text →
    slice_range (front ++ (text ++ rest)) from to ≡ text
span_is front text rest from to p q =
    let size : to - from ≡ length text = omega arith in
    (λ i. take (size i) (drop (p i) (front ++ (text ++ rest))))
    ∙ ap (take (length text)) (dropped front (text ++ rest)) ∙ taken text rest

-- the tokens of pieces from a place on
pub tokens_are : (at : ℕ) (ps : List Piece) → AllRead ps → tokens_from false at 0 (spelled ps) ≡ Ok (tokens_at at ps)
unfolding tokens_from
tokens_are at [] all = refl
tokens_are at (p ∷ ps) (here, all) =
    let from : ℕ = at + p.blanks in
    let size : length p.text ≡ 1 + length here.bytes = (let e : length p.text ≡ suc (length here.bytes) = ap length here.parts in omega (arith, e)) in
    let size' : 1 + length here.bytes ≡ length p.text = sym size in
    let t : Token = record { class = p.class; start = from; end = from + (1 + length here.bytes) } in
    behind_blanks at p.blanks (p.text ++ spelled ps)
    ∙ (ap (λ (x : List ℕ). tokens_from false from 0 (x ++ spelled ps)) here.parts
    ∙ (one_token from here.first here.bytes (spelled ps) t here.visible (here.token from) refl
    ∙ ((λ i. followed_by (record { class = p.class; start = from; end = from + size' i }) (tokens_from false (from + size' i) 0 (spelled ps)))
    ∙ ap (followed_by (token_of at p)) (tokens_are (from + length p.text) ps all))))

-- their texts
pub texts_are : (line front : List ℕ) (at : ℕ) (ps : List Piece) → line ≡ front ++ spelled ps → at ≡ length front → HaveTexts line at ps
texts_are line front at [] is place = tt
texts_are line front at (p ∷ ps) is place =
    let before : List ℕ = front ++ replicate p.blanks 32 in
    let whole : line ≡ before ++ (p.text ++ spelled ps) = is ∙ sym (append_assoc front (replicate p.blanks 32) (p.text ++ spelled ps)) in
    let places : length before ≡ at + p.blanks = omega (arith, length-append front (replicate p.blanks 32), blanks p.blanks) in (
      ap (λ (x : List ℕ). slice_range x (at + p.blanks) (at + p.blanks + length p.text)) whole
          ∙ span_is before p.text (spelled ps) (at + p.blanks) (at + p.blanks + length p.text) (sym places) (omega (arith, places)),
      texts_are line (before ++ p.text) (at + p.blanks + length p.text) ps (whole ∙ sym (append_assoc before p.text (spelled ps)))
          (omega (arith, length-append before p.text, places)),
    )
  where
    blanks : (n : ℕ) → length (let xs : List ℕ = replicate n 32 in xs) ≡ n
    blanks zero = refl
    blanks (suc n) = ap (λ (m : ℕ). suc m) (blanks n)

-- a line of pieces
pub line_tokens : (ps : List Piece) → AllRead ps → tokens_of false (spelled ps) ≡ Ok (tokens_at 0 ps)
line_tokens ps all = tokens_are 0 ps all

pub line_texts : (ps : List Piece) → HaveTexts (spelled ps) 0 ps
line_texts ps = texts_are (spelled ps) [] 0 ps refl refl
