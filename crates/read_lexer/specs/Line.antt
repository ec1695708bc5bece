-- The tokens of a line.
use Rattle.std.specs.Prelude.{◌≡◌, ◌≢◌, ℕ, zero, suc, ◌+◌, ◌-◌, ◌<◌, ◌≤◌, length, slice_index, IsTrue, Bool, if◌then◌else◌, List, [], ◌∷◌, Result, Ok, Err}
use Rattle.read_lexer.specs.declared.fault.LexError.{LexError}
use Rattle.read_lexer.specs.declared.fault.LexError.TheVariants as errors
use Rattle.read_lexer.specs.declared.parts.Token.{Token}
use Rattle.read_lexer.specs.Bytes.{is_blank, is_quote}
use Rattle.read_lexer.specs.Front.{token_at}

-- a token before others, unless those have a fault
abbrev pub followed_by : Token → Result (List Token) LexError → Result (List Token) LexError
followed_by t (Ok ts) = Ok (t ∷ ts)
followed_by t (Err e) = Err e

-- the result of `next` for a token, or the fault
abbrev pub and_then : Result Token LexError → (Token → Result (List Token) LexError) → Result (List Token) LexError
and_then (Ok t) next = next t
and_then (Err e) next = Err e

-- The tokens from index `at`. The first `inside` bytes belong to a token that began before; every other byte separates tokens or begins one.
-- `floats` is whether floating-point literals are tokens.
unfoldable pub tokens_from : (floats : Bool) → ℕ → ℕ → List ℕ → Result (List Token) LexError
tokens_from floats at inside [] = Ok []
tokens_from floats at (suc inside) (b ∷ bs) = tokens_from floats (at + 1) inside bs
tokens_from floats at zero (b ∷ bs) =
    if is_blank b then tokens_from floats (at + 1) 0 bs
    else and_then (token_at floats at b bs) (λ t. followed_by t (tokens_from floats (at + 1) (t.end - (at + 1)) bs))

-- the tokens of a line, or its first fault
abbrev pub tokens_of : (floats : Bool) → List ℕ → Result (List Token) LexError
tokens_of floats line = tokens_from floats 0 0 line

-- all bytes from index `from` to before `to` separate tokens
abbrev pub AreBlank : List ℕ → ℕ → ℕ → Type 0
AreBlank line from to = (i : ℕ) → from ≤ i → i < to → IsTrue (is_blank (slice_index line i))

-- Spans of tokens: in ascending order from index `from`, none of them empty, and all bytes outside them separate tokens.
abbrev pub AreSpans : List ℕ → ℕ → List Token → Type 0
AreSpans line from [] = AreBlank line from (length line)
AreSpans line from (t ∷ ts) = (from ≤ t.start) × AreBlank line from t.start × (t.start < t.end) × (t.end ≤ length line) × AreSpans line t.end ts

-- The byte at this index is a quote, and there is no quote of its kind after it.
pub record IsUnclosed (line : List ℕ) (at : ℕ) : Type 0 where
  pub within : at < length line
  pub quote : IsTrue (is_quote (slice_index line at))
  pub alone : (i : ℕ) → at < i → i < length line → slice_index line i ≢ slice_index line at

-- What a call returns is this result, unless memory ran out.
abbrev pub Gives : {A : Type 0} → Result A LexError → Result A LexError → Type 0
Gives (Ok x) read = read ≡ Ok x
Gives (Err errors.Memory) read = Unit {0}
Gives (Err (errors.BadByte at)) read = read ≡ Err (errors.BadByte at)
Gives (Err (errors.UnclosedString at)) read = read ≡ Err (errors.UnclosedString at)
