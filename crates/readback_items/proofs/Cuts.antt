-- No comment and no memory operands are cut from a printed line: their marks stand in no piece outside quotes.
use Rattle.std.proofs.Common.{◌≡◌, ℕ, zero, suc, ◌^◌, ◌<◌, Bool, true, false, cond, not, ◌&&◌, ◌||◌, eqb, List, [], ◌∷◌, ◌++◌, replicate, Some, None, All}
use Rattle.std.proofs.Common.{refl, sym, ap, ◌∙◌, arith, append_assoc}
use Rattle.std.specs.Prelude.{nat_eq}
use Rattle.std.specs.List.{list_all, flat_map, starts_with}
use Rattle.std.specs.Char.{is_ascii_digit}
use Rattle.std.specs.Fmt.{decimal}
use Rattle.std.proofs.lemmas.Bool.{and_parts, and_from, ne_eqb}
use Rattle.std.proofs.lemmas.Bool.Decides.{nat_tests}
use Rattle.read_lexer.specs.Bytes.{is_quote}
use Rattle.read_lexer.specs.Comment.{before}
use Rattle.mir_printer.specs.Spelling.{is_bare, quoted_byte, symbol_text}
use Rattle.readback_items.proofs.Lexing.{Piece, spelled}
use Rattle.readback_items.proofs.Numbers.{decimal_of}
use Rattle.readback_items.proofs.Symbols.{unclosed}

-- a byte that neither begins a mark nor is a quote
abbrev pub is_safe : ℕ → Bool
is_safe b = not (eqb b 58) && (not (eqb b 59) && (not (eqb b 34) && not (eqb b 39)))

-- a mark begins with `:` or `;`
abbrev pub IsMark : List ℕ → Type 0
IsMark [] = ⊥
IsMark (m ∷ ms) = (is_safe m ≡ false) × (is_quote m ≡ false) × ((b : ℕ) → is_safe b ≡ true → eqb m b ≡ false)

-- a text is left whole before this
abbrev pub Passes : (mark text rest : List ℕ) → Type 0
Passes mark text rest = before mark None (text ++ rest) ≡ text ++ before mark None rest

not_is : (b : Bool) → not b ≡ true → b ≡ false
not_is true e = absurd cc
not_is false e = refl

one_passes : (mark : List ℕ) → IsMark mark → (b : ℕ) (rest : List ℕ) → is_safe b ≡ true → before mark None (b ∷ rest) ≡ b ∷ before mark None rest
unfolding before
one_passes [] is b rest safe = absurd is
one_passes (m ∷ ms) is b rest safe =
    let colon = and_parts (not (eqb b 58)) (not (eqb b 59) && (not (eqb b 34) && not (eqb b 39))) safe in
    let semicolon = and_parts (not (eqb b 59)) (not (eqb b 34) && not (eqb b 39)) colon.1 in
    let quotes = and_parts (not (eqb b 34)) (not (eqb b 39)) semicolon.1 in
    let unquoted : is_quote b ≡ false = λ i. not_is (eqb b 34) quotes.0 i || not_is (eqb b 39) quotes.1 i in
    ap (λ (t : Bool). cond (t && starts_with nat_eq rest ms) [] (b ∷ before (m ∷ ms) (cond (is_quote b) (Some b) None) rest)) (is.2 b safe)
    ∙ ap (λ (t : Bool). b ∷ before (m ∷ ms) (cond t (Some b) None) rest) unquoted

pub safe_passes : (mark : List ℕ) → IsMark mark → (text rest : List ℕ) → list_all is_safe text ≡ true → Passes mark text rest
safe_passes mark is [] rest all = refl
safe_passes mark is (b ∷ text) rest all =
    let parts = and_parts (is_safe b) (list_all is_safe text) all in
    one_passes mark is b (text ++ rest) parts.0 ∙ ap (λ (t : List ℕ). b ∷ t) (safe_passes mark is text rest parts.1)

-- ---- numbers and names

digit_safe : (b : ℕ) → is_ascii_digit b ≡ true → is_safe b ≡ true
digit_safe b is = grind (arith, nat_tests, is)

digits_safe : (bs : List ℕ) → list_all is_ascii_digit bs ≡ true → list_all is_safe bs ≡ true
digits_safe [] all = refl
digits_safe (b ∷ bs) all =
    let parts = and_parts (is_ascii_digit b) (list_all is_ascii_digit bs) all in
    and_from (is_safe b) (list_all is_safe bs) (digit_safe b parts.0) (digits_safe bs parts.1)

pub decimal_safe : (n : ℕ) → n < 2 ^ 64 → list_all is_safe (decimal n) ≡ true
decimal_safe n small =
    let d = decimal_of n small in
    ap (list_all is_safe) d.parts ∙ digits_safe (d.first ∷ d.rest) (and_from (is_ascii_digit d.first) (list_all is_ascii_digit d.rest) d.digit d.digits)

bare_safe : (b : ℕ) → is_bare b ≡ true → is_safe b ≡ true
bare_safe b is = grind (arith, nat_tests, is)

bares_safe : (bs : List ℕ) → list_all is_bare bs ≡ true → list_all is_safe bs ≡ true
bares_safe [] all = refl
bares_safe (b ∷ bs) all =
    let parts = and_parts (is_bare b) (list_all is_bare bs) all in
    and_from (is_safe b) (list_all is_safe bs) (bare_safe b parts.0) (bares_safe bs parts.1)

-- inside quotes nothing is cut
inside : (mark bs rest : List ℕ) → list_all (λ b. not (eqb b 34)) bs ≡ true → before mark (Some 34) (bs ++ 34 ∷ rest) ≡ bs ++ 34 ∷ before mark None rest
unfolding before
inside mark [] rest all = refl
inside mark (b ∷ bs) rest all =
    let parts = and_parts (not (eqb b 34)) (list_all (λ x. not (eqb x 34)) bs) all in
    ap (λ (t : Bool). b ∷ before mark (cond t None (Some 34)) (bs ++ 34 ∷ rest)) (not_is (eqb b 34) parts.0)
    ∙ ap (λ (t : List ℕ). b ∷ t) (inside mark bs rest parts.1)

opened : (mark : List ℕ) → IsMark mark → (bs : List ℕ) → before mark None (34 ∷ bs) ≡ 34 ∷ before mark (Some 34) bs
unfolding before
opened [] is bs = absurd is
opened (m ∷ ms) is bs = ap (λ (t : Bool). cond (t && starts_with nat_eq bs ms) [] (34 ∷ before (m ∷ ms) (Some 34) bs)) (quote m is.1) where
  quote : (m : ℕ) → is_quote m ≡ false → eqb m 34 ≡ false
  quote m none = ne_eqb m 34 (λ e. let both : true ≡ false = ap is_quote (sym e) ∙ none in cc)

quoted_passes : (mark : List ℕ) → IsMark mark → (name rest : List ℕ) → All (λ b. b < 256) name →
    Passes mark (64 ∷ 34 ∷ (flat_map quoted_byte name ++ 34 ∷ [])) rest
quoted_passes mark is name rest bytes =
    let q = flat_map quoted_byte name in
    one_passes mark is 64 (34 ∷ ((q ++ 34 ∷ []) ++ rest)) refl
    ∙ ap (λ (t : List ℕ). 64 ∷ t) (opened mark is ((q ++ 34 ∷ []) ++ rest)
    ∙ ap (λ (t : List ℕ). 34 ∷ t) (ap (before mark (Some 34)) (append_assoc q (34 ∷ []) rest)
    ∙ (inside mark q rest (unclosed name bytes) ∙ sym (append_assoc q (34 ∷ []) (before mark None rest)))))

pub symbol_passes : (mark : List ℕ) → IsMark mark → (name rest : List ℕ) → All (λ b. b < 256) name → Passes mark (symbol_text name) rest
symbol_passes mark is [] rest bytes = quoted_passes mark is [] rest bytes
symbol_passes mark is (b ∷ bs) rest bytes = by (list_all is_bare (b ∷ bs)) refl where
  by : (t : Bool) → list_all is_bare (b ∷ bs) ≡ t → Passes mark (64 ∷ cond t (b ∷ bs) (34 ∷ (flat_map quoted_byte (b ∷ bs) ++ 34 ∷ []))) rest
  by true all = safe_passes mark is (64 ∷ b ∷ bs) rest (bares_safe (b ∷ bs) all)
  by false all = quoted_passes mark is (b ∷ bs) rest bytes

-- ---- pieces

-- no mark stands in pieces
abbrev pub AllPass : (mark : List ℕ) → List Piece → Type 0
AllPass mark [] = Unit {0}
AllPass mark (p ∷ ps) = Passes mark p.text (spelled ps) × AllPass mark ps

spaces_pass : (mark : List ℕ) → IsMark mark → (n : ℕ) (rest : List ℕ) → before mark None (replicate n 32 ++ rest) ≡ replicate n 32 ++ before mark None rest
spaces_pass mark is zero rest = refl
spaces_pass mark is (suc n) rest = one_passes mark is 32 (replicate n 32 ++ rest) refl ∙ ap (λ (t : List ℕ). 32 ∷ t) (spaces_pass mark is n rest)

pub pieces_pass : (mark : List ℕ) → IsMark mark → (ps : List Piece) → AllPass mark ps → before mark None (spelled ps) ≡ spelled ps
unfolding before
pieces_pass mark is [] all = refl
pieces_pass mark is (p ∷ ps) all =
    spaces_pass mark is p.blanks (p.text ++ spelled ps)
    ∙ ap (λ (t : List ℕ). replicate p.blanks 32 ++ t) (all.0 ∙ ap (λ (t : List ℕ). p.text ++ t) (pieces_pass mark is ps all.1))

pub semicolon_mark : IsMark (59 ∷ [])
semicolon_mark = (refl, refl, λ b safe. safe_other b safe 59 refl) where
  safe_other : (b : ℕ) → is_safe b ≡ true → (m : ℕ) → is_safe m ≡ false → eqb m b ≡ false
  safe_other b safe m none = ne_eqb m b (λ e. let both : true ≡ false = sym safe ∙ (ap is_safe (sym e) ∙ none) in cc)

pub colons_mark : IsMark (58 ∷ 58 ∷ [])
colons_mark = (refl, refl, λ b safe. safe_other b safe 58 refl) where
  safe_other : (b : ℕ) → is_safe b ≡ true → (m : ℕ) → is_safe m ≡ false → eqb m b ≡ false
  safe_other b safe m none = ne_eqb m b (λ e. let both : true ≡ false = sym safe ∙ (ap is_safe (sym e) ∙ none) in cc)

-- a colon before a space
pub colon_passes : (rest : List ℕ) → Passes (58 ∷ 58 ∷ []) (58 ∷ []) (32 ∷ rest)
unfolding before
colon_passes rest = refl

-- a colon begins no comment
pub semicolon_colon : (rest : List ℕ) → Passes (59 ∷ []) (58 ∷ []) (32 ∷ rest)
unfolding before
semicolon_colon rest = refl
