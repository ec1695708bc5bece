-- The names of tokens of a line of bytes.
use Rattle.std.proofs.Common.{◌≡◌, ℕ, zero, suc, ◌+◌, ◌-◌, ◌*◌, ◌<◌, Bool, true, false, cond, ◌&&◌, eqb, List, [], ◌∷◌, length, drop, All}
use Rattle.std.proofs.Common.{Some, None, Result, Ok, Err, refl, sym, subst, ◌∙◌, arith}
use Rattle.std.specs.Prelude.{unwrap_or, is_some}
use Rattle.std.specs.Char.{digit_value, is_ascii_hexdigit}
use Rattle.std.specs.List.{flat_map}
use Rattle.std.proofs.lemmas.Bool.{and_parts, cond-true, cond-false}
use Rattle.std.proofs.lemmas.Bool.Decides.{nat_tests}
use Rattle.std.proofs.lemmas.List.Elements.{All-nil, All-cons, All-head, All-tail, All-take, All-drop, All-append}
use Rattle.read_lexer.specs.declared.fault.LexError.{LexError}
use Rattle.read_lexer.specs.declared.line.Line.{Line}
use Rattle.read_lexer.specs.declared.parts.Class.TheVariants as class
use Rattle.read_lexer.specs.declared.parts.Token.{Token}
use Rattle.read_lexer.specs.Line.{tokens_of}
use Rattle.read_metadata.specs.Definition as symbol
use Rattle.read_metadata.specs.Text.{escape, unescaped_behind, inside_quotes}
use Rattle.read_metadata.specs.Token.{is_word, text_of}
use Rattle.read_declarations.specs.Name.{opens_with, are_single, spelling_alone, spelling_of, joined, name_by, name_read, name_of}
use Rattle.readback_functions.specs.Bytes.{AreBytes}
use Rattle.readback_functions.proofs.NameLines.{LineBytes}

abbrev IsByte : ℕ → Type 0
IsByte b = b < 256

pub token_bytes : (line : List ℕ) (t : Token) → AreBytes line → AreBytes (text_of line t)
token_bytes line t bytes = All-take IsByte (t.end - t.start) (drop t.start line) (All-drop IsByte t.start line bytes)

inside_bytes : (text : List ℕ) → AreBytes text → AreBytes (inside_quotes text)
inside_bytes text bytes = All-take IsByte (length text - 1 - 1) (drop 1 text) (All-drop IsByte 1 text bytes)

-- ---- escapes

digit_small : (b : ℕ) → is_ascii_hexdigit b ≡ true → digit_value b < 16
digit_small b is = grind (arith, nat_tests, is)

escape_small : (t : Bool) (b c other : ℕ) → (is_ascii_hexdigit b && is_ascii_hexdigit c) ≡ t → other < 256 →
    unwrap_or (cond t (Some (16 * digit_value b + digit_value c)) None) other < 256
escape_small true b c other is byte =
    let parts = and_parts (is_ascii_hexdigit b) (is_ascii_hexdigit c) is in
    let high = digit_small b parts.0 in
    let low = digit_small c parts.1 in
    omega (arith, high, low)
escape_small false b c other is byte = byte

escaped : (a : ℕ) (bs : List ℕ) → a < 256 → unwrap_or (escape (a ∷ bs)) a < 256
escaped a [] byte = byte
escaped a (b ∷ []) byte = byte
escaped a (b ∷ c ∷ bs) byte = by (eqb a 92) where
  by : (t : Bool) → unwrap_or (cond (t && (is_ascii_hexdigit b && is_ascii_hexdigit c)) (Some (16 * digit_value b + digit_value c)) None) a < 256
  by true = escape_small (is_ascii_hexdigit b && is_ascii_hexdigit c) b c a refl byte
  by false = byte

unescaped_bytes : (skip : ℕ) (text : List ℕ) → AreBytes text → AreBytes (unescaped_behind skip text)
unfolding unescaped_behind
unescaped_bytes zero [] bytes = All-nil IsByte
unescaped_bytes (suc skip) [] bytes = All-nil IsByte
unescaped_bytes (suc skip) (b ∷ bs) bytes = unescaped_bytes skip bs (All-tail IsByte b bs bytes)
unescaped_bytes zero (b ∷ bs) bytes =
    All-cons IsByte (unwrap_or (escape (b ∷ bs)) b) (unescaped_behind (cond (is_some (escape (b ∷ bs))) 2 0) bs) (escaped b bs (All-head IsByte b bs bytes))
    (unescaped_bytes (cond (is_some (escape (b ∷ bs))) 2 0) bs (All-tail IsByte b bs bytes))

-- the name of a symbol
pub symbol_bytes : (text : List ℕ) → AreBytes text → AreBytes (symbol.name_of text)
symbol_bytes [] bytes = bytes
symbol_bytes (b ∷ bs) bytes = by (eqb b 34) where
  by : (t : Bool) → AreBytes (cond t (unescaped_behind 0 (inside_quotes (b ∷ bs))) (b ∷ bs))
  by true = unescaped_bytes 0 (inside_quotes (b ∷ bs)) (inside_bytes (b ∷ bs) bytes)
  by false = bytes

-- ---- the name of a function

-- a token of each spelling: a word, texts in double and in single quotes, and another
abbrev a_word : Token
a_word = record { class = class.Word; start = 0; end = 0 }

abbrev a_text : Token
a_text = record { class = class.Text; start = 0; end = 1 }

abbrev another : Token
another = record { class = class.Integer; start = 0; end = 0 }

parts_bytes : (line : List ℕ) (ts : List Token) → AreBytes line → AreBytes (flat_map (λ t. 39 ∷ inside_quotes (text_of line t)) ts)
parts_bytes line [] bytes = All-nil IsByte
parts_bytes line (t ∷ ts) bytes =
    All-append IsByte (39 ∷ inside_quotes (text_of line t)) (flat_map (λ x. 39 ∷ inside_quotes (text_of line x)) ts)
    (All-cons IsByte 39 (inside_quotes (text_of line t)) (omega arith) (inside_bytes (text_of line t) (token_bytes line t bytes)))
    (parts_bytes line ts bytes)

joined_bytes : (line : List ℕ) (ts : List Token) → AreBytes line → AreBytes (joined line ts)
joined_bytes line ts bytes = All-drop IsByte 1 (flat_map (λ t. 39 ∷ inside_quotes (text_of line t)) ts) (parts_bytes line ts bytes)

alone_bytes : (line : List ℕ) (t : Token) → AreBytes line → AreBytes (name_by line (spelling_alone line t) (t ∷ []))
unfolding are_single
alone_bytes line t bytes = by (is_word t) (opens_with line 34 t) (are_single line t.start (t ∷ [])) refl refl refl where
  by : (a b c : Bool) → is_word t ≡ a → opens_with line 34 t ≡ b → are_single line t.start (t ∷ []) ≡ c →
      AreBytes (name_by line (spelling_alone line t) (t ∷ []))
  by true b c p q r =
      let is : spelling_alone line t ≡ spelling_alone [] a_word = cond-true (is_word t) _ _ p in
      subst AreBytes (sym (let e : name_by line (spelling_alone line t) (t ∷ []) ≡ text_of line t = (λ i. name_by line (is i) (t ∷ [])) in e))
      (token_bytes line t bytes)
  by false true c p q r =
      let is : spelling_alone line t ≡ spelling_alone (34 ∷ []) a_text = cond-false (is_word t) _ _ p ∙ cond-true (opens_with line 34 t) _ _ q in
      subst AreBytes (sym (let e : name_by line (spelling_alone line t) (t ∷ []) ≡ unescaped_behind 0 (inside_quotes (text_of line t)) =
      (λ i. name_by line (is i) (t ∷ [])) in e))
      (unescaped_bytes 0 (inside_quotes (text_of line t)) (inside_bytes (text_of line t) (token_bytes line t bytes)))
  by false false true p q r =
      let is : spelling_alone line t ≡ spelling_alone (39 ∷ []) a_text =
      cond-false (is_word t) _ _ p ∙ cond-false (opens_with line 34 t) _ _ q ∙ cond-true (are_single line t.start (t ∷ [])) _ _ r in
      subst AreBytes (sym (let e : name_by line (spelling_alone line t) (t ∷ []) ≡ joined line (t ∷ []) = (λ i. name_by line (is i) (t ∷ [])) in e))
      (joined_bytes line (t ∷ []) bytes)
  by false false false p q r =
      let is : spelling_alone line t ≡ spelling_alone [] another =
      cond-false (is_word t) _ _ p ∙ cond-false (opens_with line 34 t) _ _ q ∙ cond-false (are_single line t.start (t ∷ [])) _ _ r in
      let none : List ℕ = [] in
      subst AreBytes (sym (let e : name_by line (spelling_alone line t) (t ∷ []) ≡ none = (λ i. name_by line (is i) (t ∷ [])) in e)) (All-nil IsByte)

spelt_bytes : (line : List ℕ) (ts : List Token) → AreBytes line → AreBytes (name_by line (spelling_of line ts) ts)
unfolding spelling_of are_single
spelt_bytes line [] bytes = All-nil IsByte
spelt_bytes line (t ∷ []) bytes = alone_bytes line t bytes
spelt_bytes line (t ∷ u ∷ ts) bytes = by (are_single line t.start (t ∷ u ∷ ts)) refl where
  by : (c : Bool) → are_single line t.start (t ∷ u ∷ ts) ≡ c → AreBytes (name_by line (spelling_of line (t ∷ u ∷ ts)) (t ∷ u ∷ ts))
  by true r =
      let is : spelling_of line (t ∷ u ∷ ts) ≡ spelling_alone (39 ∷ []) a_text = cond-true (are_single line t.start (t ∷ u ∷ ts)) _ _ r in
      subst AreBytes (sym (let e : name_by line (spelling_of line (t ∷ u ∷ ts)) (t ∷ u ∷ ts) ≡ joined line (t ∷ u ∷ ts) =
      (λ i. name_by line (is i) (t ∷ u ∷ ts)) in e)) (joined_bytes line (t ∷ u ∷ ts) bytes)
  by false r =
      let is : spelling_of line (t ∷ u ∷ ts) ≡ spelling_alone [] another = cond-false (are_single line t.start (t ∷ u ∷ ts)) _ _ r in
      let none : List ℕ = [] in
      subst AreBytes (sym (let e : name_by line (spelling_of line (t ∷ u ∷ ts)) (t ∷ u ∷ ts) ≡ none = (λ i. name_by line (is i) (t ∷ u ∷ ts)) in e))
      (All-nil IsByte)

read_bytes : (line : Line) (read : Result (List Token) LexError) → LineBytes line → AreBytes (name_read line read).name
read_bytes line (Ok ts) bytes = spelt_bytes line.text (drop 2 ts) bytes
read_bytes line (Err e) bytes = All-nil IsByte

-- the name that lines of bytes give
pub name_bytes : (ls : List Line) → All LineBytes ls → AreBytes (name_of ls).name
name_bytes [] all = All-nil IsByte
name_bytes (l ∷ ls) all = read_bytes l (tokens_of false l.text) (All-head LineBytes l ls all)
