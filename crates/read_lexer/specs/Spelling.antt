-- The grammar of tokens: which texts are tokens of each class. A token is the longest text from its first byte that is one of any class.
use Rattle.std.specs.Prelude.{◌≡◌, ℕ, ◌<◌, ◌≤◌, Bool, true, false, not, ◌&&◌, ◌||◌, ◌==◌, if◌then◌else◌, IsTrue, List, [], ◌∷◌, drop, length, slice_range}
use Rattle.std.specs.List.{list_all, prefix_len}
use Rattle.std.specs.Char.{is_ascii_digit, is_ascii_hexdigit}
use Rattle.read_lexer.specs.declared.parts.Class.{Class}
use Rattle.read_lexer.specs.declared.parts.Class.TheVariants.{Word, Register, Percent, Node, Kind, Symbol, Integer, Float, Text, Single}
use Rattle.read_lexer.specs.declared.parts.Token.{Token}
use Rattle.read_lexer.specs.Bytes.{is_word_start, is_word_byte, is_symbol_byte, is_quote, is_single, sign_len}

-- a run: at least one byte, and each of them passes
abbrev pub is_run : (ℕ → Bool) → List ℕ → Bool
is_run passes [] = false
is_run passes (b ∷ bs) = list_all passes (b ∷ bs)

-- a word: a letter or `_`, and word bytes
abbrev pub is_word : List ℕ → Bool
is_word [] = false
is_word (b ∷ bs) = is_word_start b && list_all is_word_byte bs

-- bytes that end at the first `quote` among them
abbrev pub is_closed_by : ℕ → List ℕ → Bool
is_closed_by quote [] = false
is_closed_by quote (b ∷ bs) = if b == quote then length bs == 0 else is_closed_by quote bs

-- a double quote, and bytes that end at the next one
abbrev pub is_quoted_name : List ℕ → Bool
is_quoted_name [] = false
is_quoted_name (b ∷ bs) = b == 34 && is_closed_by 34 bs

-- `x` and hexadecimal digits
abbrev pub is_hexadecimal : List ℕ → Bool
is_hexadecimal [] = false
is_hexadecimal (b ∷ bs) = b == 120 && is_run is_ascii_hexdigit bs

-- an exponent: `e`, a sign or none, and digits; or nothing
abbrev pub is_exponent : List ℕ → Bool
is_exponent [] = true
is_exponent (b ∷ bs) = b == 101 && is_run is_ascii_digit (drop (sign_len bs) bs)

-- digits, at least one, and what is behind them passes
abbrev pub is_digits_and : (List ℕ → Bool) → List ℕ → Bool
is_digits_and passes text = not (prefix_len is_ascii_digit text == 0) && passes (drop (prefix_len is_ascii_digit text) text)

-- a fraction: a point and digits, and an exponent or none
abbrev pub is_fraction : List ℕ → Bool
is_fraction [] = false
is_fraction (b ∷ bs) = b == 46 && is_digits_and is_exponent bs

-- a floating-point literal without a sign (LLVM Language Reference, "Simple Constants")
abbrev pub is_float : List ℕ → Bool
is_float text = is_digits_and is_fraction text

-- whether a text is a token of a class; `floats` is whether floating-point literals are tokens
abbrev pub spells : (floats : Bool) → Class → List ℕ → Bool
spells floats class [] = false
spells floats Word (b ∷ bs) = is_word (b ∷ bs)
spells floats Register (b ∷ bs) = b == 36 && is_run is_word_byte bs
spells floats Percent (b ∷ bs) = b == 37 && is_run is_word_byte bs
spells floats Node (b ∷ bs) = b == 33 && is_run is_ascii_digit bs
spells floats Kind (b ∷ bs) = b == 33 && is_word bs
spells floats Symbol (b ∷ bs) = (b == 64 || b == 38) && (is_run is_symbol_byte bs || is_quoted_name bs)
spells floats Integer (b ∷ bs) = (is_ascii_digit b && (list_all is_ascii_digit bs || (b == 48 && is_hexadecimal bs))) || (b == 45 && is_run is_ascii_digit bs)
spells floats Float (b ∷ bs) = floats && (if b == 45 then is_float bs else is_float (b ∷ bs))
spells floats Text (b ∷ bs) = is_quote b && is_closed_by b bs
spells floats (Single byte) (b ∷ bs) = (b == byte && is_single b) && length bs == 0

-- no text from index `start` that ends after `last` is a token
abbrev pub NoneReaches : (floats : Bool) → List ℕ → ℕ → ℕ → Type 0
NoneReaches floats line start last = (class : Class) (end : ℕ) → last < end → end ≤ length line → spells floats class (slice_range line start end) ≡ false

-- the token's text is one of its class, and no longer text from its first byte is a token
pub record IsLongest (floats : Bool) (line : List ℕ) (t : Token) : Type 0 where
  pub spelled : IsTrue (spells floats t.class (slice_range line t.start t.end))
  pub longest : NoneReaches floats line t.start t.end

-- no text from this index is a token
pub record BeginsNothing (floats : Bool) (line : List ℕ) (at : ℕ) : Type 0 where
  pub within : at < length line
  pub nothing : NoneReaches floats line at at
