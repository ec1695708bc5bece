-- The part of a line that is lexed: what comes before a comment or memory operands.
use Rattle.std.specs.Prelude.{ℕ, Bool, ◌==◌, ◌&&◌, is_none, if◌then◌else◌, nat_eq, codes, List, [], ◌∷◌, Option, Some, None}
use Rattle.std.specs.List.{starts_with}
use Rattle.read_lexer.specs.Bytes.{is_quote}

-- the open quote after a byte, if one is open: a quote opens a text, and the same quote closes it
abbrev pub quote_behind : Option ℕ → ℕ → Option ℕ
quote_behind (Some quote) b = if b == quote then None else Some quote
quote_behind None b = if is_quote b then Some b else None

-- whether the bytes begin with `mark`, outside quotes
abbrev pub is_cut : List ℕ → Option ℕ → List ℕ → Bool
is_cut mark open_quote rest = is_none open_quote && starts_with nat_eq rest mark

-- The bytes before the first `mark` outside quotes. `open_quote` is the quote that is open at the front, if any.
unfoldable pub before : List ℕ → Option ℕ → List ℕ → List ℕ
before mark open_quote [] = []
before mark open_quote (b ∷ bs) = if is_cut mark open_quote (b ∷ bs) then [] else b ∷ before mark (quote_behind open_quote b) bs

-- a line without its comment, which begins with `;`
abbrev pub before_comment : List ℕ → List ℕ
before_comment line = before (codes ";") None line

-- an instruction's line without its memory operands, which begin with `::`
abbrev pub before_memory_operands : List ℕ → List ℕ
before_memory_operands line = before (codes "::") None line
