-- Where the token at the front ends.
use Rattle.std.proofs.Common.{◌≡◌, ℕ, ◌+◌, ◌<◌, ◌≤◌, ◌==◌, Bool, true, false, not, ◌&&◌, ◌||◌, cond, ltb, List, [], ◌∷◌, length, drop, Some, None, Result, Ok, Err, refl, subst}
use Rattle.std.proofs.Common.{arith}
use Rattle.std.specs.List.{prefix_len, position_or_len}
use Rattle.std.specs.Char.{is_ascii_digit, is_ascii_hexdigit}
use Rattle.std.proofs.lemmas.List.Sums.{prefix_len-le-length}
use Rattle.std.proofs.lemmas.Bool.{ltb-true}
use Rattle.std.proofs.lemmas.List.{length-drop}
use Rattle.read_lexer.proofs.Floats.{fraction_len-le}
use Rattle.read_lexer.specs.declared.fault.LexError.{LexError}
use Rattle.read_lexer.specs.declared.parts.Class.{Class}
use Rattle.read_lexer.specs.declared.parts.Class.TheVariants.{Word, Register, Percent, Node, Kind, Symbol, Integer, Float, Text, Single}
use Rattle.read_lexer.specs.declared.parts.Token.{Token}
use Rattle.read_lexer.specs.Bytes.{is_word_start, is_word_byte, is_symbol_byte, is_quote, is_single, word_len, fraction_len}
use Rattle.read_lexer.specs.Front.{token, marked, quoted, closed, metadata_at, symbol_at, hexadecimal_len, decimal_at, integer_at, minus_at, token_at}

-- a token begins at a place, and ends behind it and within the line
abbrev pub Spans : ℕ → ℕ → Token → Type 0
Spans at last t = (t.start ≡ at) × (at < t.end) × (t.end ≤ last)

abbrev pub SpansIfThere : ℕ → ℕ → Result Token LexError → Type 0
SpansIfThere at last (Ok t) = Spans at last t
SpansIfThere at last (Err e) = Unit {0}

either : (at last : ℕ) (b : Bool) (x y : Result Token LexError) → SpansIfThere at last x → SpansIfThere at last y → SpansIfThere at last (cond b x y)
either at last true x y p q = p
either at last false x y p q = q

token-spans : (class : Class) (at len last : ℕ) → 0 < len → at + len ≤ last → SpansIfThere at last (token class at len)
token-spans class at len last more fits = (refl, omega arith, fits)

marked-spans : (class : Class) (at run last : ℕ) → at + run + 1 ≤ last → SpansIfThere at last (marked class at run)
marked-spans class at run last fits = either at last (run == 0) (Err _) (token class at (1 + run)) tt (token-spans class at (1 + run) last (omega arith) (omega
    arith))

closed-spans : (class : Class) (at open_at quote : ℕ) (after : List ℕ) (last : ℕ) → at ≤ open_at → open_at + length after + 1 ≤ last
    → (b : Bool) → ltb (position_or_len (λ b. b == quote) after) (length after) ≡ b → SpansIfThere at last (closed class at open_at (cond b (Some
    (position_or_len (λ b. b == quote) after)) None))
closed-spans class at open_at quote after last le fits true e = let lt : position_or_len (λ b. b == quote) after < length after = ltb-true _ _ e in
    (refl, omega arith, omega arith)
closed-spans class at open_at quote after last le fits false e = tt

quoted-spans : (class : Class) (at open_at quote : ℕ) (after : List ℕ) (last : ℕ) → at ≤ open_at → open_at + length after + 1 ≤ last →
    SpansIfThere at last (quoted class at open_at quote after)
quoted-spans class at open_at quote after last le fits = closed-spans class at open_at quote after last le fits _ refl

word_len-le : (bs : List ℕ) → word_len bs ≤ length bs
word_len-le [] = omega arith
word_len-le (b ∷ bs) = let h = prefix_len-le-length is_word_byte bs in elim (is_word_start b) as (λ z. cond z (1 + prefix_len is_word_byte bs) 0 ≤ length (b ∷
    bs)) [ true ↦ omega arith | false ↦ omega arith ]

metadata-spans : (at : ℕ) (after : List ℕ) (last : ℕ) → at + length after + 1 ≤ last → SpansIfThere at last (metadata_at at after)
metadata-spans at after last fits =
    let w = word_len-le after in
    let d = prefix_len-le-length is_ascii_digit after in
    either at last _ _ _ (marked-spans Kind at (word_len after) last (omega arith)) (marked-spans Node at (prefix_len is_ascii_digit after) last (omega arith))

symbol-spans : (at : ℕ) (after : List ℕ) (last : ℕ) → at + length after + 1 ≤ last → SpansIfThere at last (symbol_at at after)
symbol-spans at [] last fits = tt
symbol-spans at (b ∷ bs) last fits =
    let d = prefix_len-le-length is_symbol_byte (b ∷ bs) in
    either at last (b == 34) _ _ (quoted-spans Symbol at (at + 1) 34 bs last (omega arith) (omega arith)) (marked-spans Symbol at (prefix_len is_symbol_byte (b
    ∷ bs)) last (omega arith))

hexadecimal_len-le : (first b : ℕ) (bs : List ℕ) → hexadecimal_len first (b ∷ bs) ≤ length bs
hexadecimal_len-le first b bs =
    let h = prefix_len-le-length is_ascii_hexdigit bs in
    elim (first == 48) as (λ z. cond z (cond (b == 120) (prefix_len is_ascii_hexdigit bs) 0) 0 ≤ length bs) [
      | true ↦ elim (b == 120) as (λ z. cond z (prefix_len is_ascii_hexdigit bs) 0 ≤ length bs) [ true ↦ h | false ↦ omega arith ]
      | false ↦ omega arith
    ]

decimal-spans : (floats : Bool) (at len : ℕ) (behind : List ℕ) (last : ℕ) → 0 < len → at + len + length behind ≤ last →
    SpansIfThere at last (decimal_at floats at len behind)
decimal-spans floats at len behind last more fits =
    let f = fraction_len-le behind in
    either at last (floats && not (fraction_len behind == 0)) (token Float at (len + fraction_len behind)) (token Integer at len)
    (token-spans Float at (len + fraction_len behind) last (omega arith) (omega arith)) (token-spans Integer at len last more (omega arith))

integer-spans : (floats : Bool) (at first : ℕ) (after : List ℕ) (last : ℕ) → at + length after + 1 ≤ last →
    SpansIfThere at last (integer_at floats at first after)
integer-spans floats at first [] last fits = decimal-spans floats at 1 [] last (omega arith) (omega arith)
integer-spans floats at first (b ∷ bs) last fits =
    let run = prefix_len is_ascii_digit (b ∷ bs) in
    let d = prefix_len-le-length is_ascii_digit (b ∷ bs) in
    let left = length-drop run (b ∷ bs) in
    let h = hexadecimal_len-le first b bs in
    either at last (hexadecimal_len first (b ∷ bs) == 0) (decimal_at floats at (1 + run) (drop run (b ∷ bs)))
    (token Integer at (2 + hexadecimal_len first (b ∷ bs))) (decimal-spans floats at (1 + run) (drop run (b ∷ bs)) last (omega arith) (omega arith))
    (token-spans Integer at (2 + hexadecimal_len first (b ∷ bs)) last (omega arith) (omega arith))

minus-spans : (floats : Bool) (at : ℕ) (after : List ℕ) (last : ℕ) → at + length after + 1 ≤ last → SpansIfThere at last (minus_at floats at after)
minus-spans floats at after last fits =
    let run = prefix_len is_ascii_digit after in
    let d = prefix_len-le-length is_ascii_digit after in
    let left = length-drop run after in
    either at last (run == 0) (token (Single 45) at 1) (decimal_at floats at (1 + run) (drop run after))
    (token-spans (Single 45) at 1 last (omega arith) (omega arith)) (decimal-spans floats at (1 + run) (drop run after) last (omega arith) (omega arith))

-- the token at the front begins there, and ends within the line
pub token_at-spans : (floats : Bool) → (at first : ℕ) (after : List ℕ) (last : ℕ) → at + length after + 1 ≤ last → SpansIfThere at last (token_at floats at first after)
unfolding token_at
token_at-spans floats at first after last fits =
    let w = prefix_len-le-length is_word_byte after in
    either at last (is_word_start first) (token Word at (1 + prefix_len is_word_byte after)) _ (token-spans Word at (1 + prefix_len is_word_byte after) last
    (omega arith) (omega arith))
    (either at last (is_ascii_digit first) _ _ (integer-spans floats at first after last fits)
    (either at last (first == 45) _ _ (minus-spans floats at after last fits)
    (either at last (first == 36) _ _ (marked-spans Register at (prefix_len is_word_byte after) last (omega arith))
    (either at last (first == 37) _ _ (marked-spans Percent at (prefix_len is_word_byte after) last (omega arith))
    (either at last (first == 33) _ _ (metadata-spans at after last fits)
    (either at last (first == 64 || first == 38) _ _ (symbol-spans at after last fits)
    (either at last (is_quote first) _ _ (quoted-spans Text at at first after last (omega arith) fits)
    (either at last (is_single first) _ _ (token-spans (Single first) at 1 last (omega arith) (omega arith)) tt))))))))

-- the same of a token that is there
pub token_at-ok : (floats : Bool) → (at first : ℕ) (after : List ℕ) (last : ℕ) (t : Token) → at + length after + 1 ≤ last → token_at floats at first after ≡ Ok t → Spans at last t
token_at-ok floats at first after last t fits e = subst (SpansIfThere at last) e (token_at-spans floats at first after last fits)
