-- The token at the front of the rest of a line: its first byte determines its class, and the bytes after that how long it is. (LLVM, "Machine IR (MIR)
-- Format Reference Manual", has the notations.)
use Rattle.std.specs.Prelude.{ℕ, ◌+◌, Bool, not, ◌&&◌, ◌||◌, ◌==◌, if◌then◌else◌, drop, List, [], ◌∷◌, Option, Some, None, Result, Ok, Err}
use Rattle.std.specs.List.{prefix_len, position}
use Rattle.std.specs.Char.{is_ascii_digit, is_ascii_hexdigit}
use Rattle.read_lexer.specs.declared.fault.LexError.{LexError}
use Rattle.read_lexer.specs.declared.fault.LexError.TheVariants.{BadByte, UnclosedString}
use Rattle.read_lexer.specs.declared.parts.Class.{Class}
use Rattle.read_lexer.specs.declared.parts.Class.TheVariants.{Word, Register, Percent, Node, Kind, Symbol, Integer, Float, Text, Single}
use Rattle.read_lexer.specs.declared.parts.Token.{Token}
use Rattle.read_lexer.specs.Bytes.{is_word_start, is_word_byte, is_symbol_byte, is_quote, is_single, word_len, fraction_len}

-- a token of this length, from index `at`
abbrev pub token : Class → ℕ → ℕ → Result Token LexError
token class at len = Ok (record { class = class; start = at; end = at + len })

-- a token of one byte and a run after it, which must not be empty
abbrev pub marked : Class → ℕ → ℕ → Result Token LexError
marked class at run = if run == 0 then Err (BadByte at) else token class at (1 + run)

-- a token up to the closing quote, which is `len` bytes after the quote at `open_at`; a fault if none closes that
abbrev pub closed : Class → ℕ → ℕ → Option ℕ → Result Token LexError
closed class at open_at (Some len) = Ok (record { class = class; start = at; end = open_at + 2 + len })
closed class at open_at None = Err (UnclosedString open_at)

-- A token from index `at` that ends with a text in quotes: up to the next `quote` after the one at `open_at`. `after` are the bytes after that one.
abbrev pub quoted : Class → ℕ → ℕ → ℕ → List ℕ → Result Token LexError
quoted class at open_at quote after = closed class at open_at (position (λ b. b == quote) after)

-- after `!`: digits for a metadata node, or a word for a kind of nodes
abbrev pub metadata_at : ℕ → List ℕ → Result Token LexError
metadata_at at after = if prefix_len is_ascii_digit after == 0 then marked Kind at (word_len after) else marked Node at (prefix_len is_ascii_digit after)

-- after `@` or `&`: a name in double quotes, or an unquoted one
abbrev pub symbol_at : ℕ → List ℕ → Result Token LexError
symbol_at at [] = Err (BadByte at)
symbol_at at (b ∷ bs) = if b == 34 then quoted Symbol at (at + 1) 34 bs else marked Symbol at (prefix_len is_symbol_byte (b ∷ bs))

-- the number of hexadecimal digits after `0x`; 0 if there is no `0x`
abbrev pub hexadecimal_len : ℕ → List ℕ → ℕ
hexadecimal_len first [] = 0
hexadecimal_len first (b ∷ bs) = if first == 48 then (if b == 120 then prefix_len is_ascii_hexdigit bs else 0) else 0

-- a decimal number whose first `len` bytes are an integer, where `behind` are the bytes behind those. `floats` is whether floating-point literals are tokens
abbrev pub decimal_at : (floats : Bool) → (at len : ℕ) → (behind : List ℕ) → Result Token LexError
decimal_at floats at len behind = if floats && not (fraction_len behind == 0) then token Float at (len + fraction_len behind) else token Integer at len

-- a number from its first digit: `0x` and hexadecimal digits, or decimal digits
abbrev pub integer_at : (floats : Bool) → ℕ → ℕ → List ℕ → Result Token LexError
integer_at floats at first after =
    if hexadecimal_len first after == 0 then decimal_at floats at (1 + prefix_len is_ascii_digit after) (drop (prefix_len is_ascii_digit after) after)
    else token Integer at (2 + hexadecimal_len first after)

-- after `-`: digits for a number, or the byte alone
abbrev pub minus_at : (floats : Bool) → ℕ → List ℕ → Result Token LexError
minus_at floats at after =
    if prefix_len is_ascii_digit after == 0 then token (Single 45) at 1
    else decimal_at floats at (1 + prefix_len is_ascii_digit after) (drop (prefix_len is_ascii_digit after) after)

-- The token, or the lexical fault, at index `at`, where `first` is the byte there and `after` are the bytes after it. `floats` is whether floating-point
-- literals are tokens.
unfoldable pub token_at : (floats : Bool) → ℕ → ℕ → List ℕ → Result Token LexError
token_at floats at first after =
    if is_word_start first then token Word at (1 + prefix_len is_word_byte after)
    else (if is_ascii_digit first then integer_at floats at first after
    else (if first == 45 then minus_at floats at after
    else (if first == 36 then marked Register at (prefix_len is_word_byte after)
    else (if first == 37 then marked Percent at (prefix_len is_word_byte after)
    else (if first == 33 then metadata_at at after
    else (if first == 64 || first == 38 then symbol_at at after
    else (if is_quote first then quoted Text at at first after
    else (if is_single first then token (Single first) at 1
    else Err (BadByte at)))))))))
