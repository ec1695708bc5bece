-- The classes of bytes in tokens.
use Rattle.std.specs.Prelude.{codes, ℕ, ◌+◌, Bool, ◌||◌, ◌==◌, if◌then◌else◌, drop, List, [], ◌∷◌}
use Rattle.std.specs.List.{prefix_len, list_any}
use Rattle.std.specs.Char.{is_ascii_alphabetic, is_ascii_alphanumeric, is_ascii_digit}

-- a space or a tab, which separates tokens
abbrev pub is_blank : ℕ → Bool
is_blank b = b == 32 || b == 9

-- the first byte of a word: a letter or `_`
abbrev pub is_word_start : ℕ → Bool
is_word_start b = is_ascii_alphabetic b || b == 95

-- a further byte of a word: a letter, a digit, `_`, `.` or `-`
abbrev pub is_word_byte : ℕ → Bool
is_word_byte b = is_ascii_alphanumeric b || b == 95 || b == 46 || b == 45

-- a byte of a symbol's unquoted name: a word byte or `$`
abbrev pub is_symbol_byte : ℕ → Bool
is_symbol_byte b = is_word_byte b || b == 36

-- a double or a single quote
abbrev pub is_quote : ℕ → Bool
is_quote b = b == 34 || b == 39

-- a byte that is a token by itself, unless it begins a longer one
abbrev pub is_single : ℕ → Bool
is_single b = list_any (λ c. b == c) (codes "=,():{}[]<>|+-")

-- the length of the word at the front: a letter or `_`, and word bytes; 0 if there is none
abbrev pub word_len : List ℕ → ℕ
word_len [] = 0
word_len (b ∷ bs) = if is_word_start b then 1 + prefix_len is_word_byte bs else 0

-- a length with that of the digits behind it; 0 if no digit stands there
abbrev pub with_digits : ℕ → List ℕ → ℕ
with_digits len behind = if prefix_len is_ascii_digit behind == 0 then 0 else len + prefix_len is_ascii_digit behind

-- the length of a sign at the front; 0 if there is none
abbrev pub sign_len : List ℕ → ℕ
sign_len [] = 0
sign_len (b ∷ bs) = if b == 43 || b == 45 then 1 else 0

-- the length of an exponent at the front: `e`, a sign or none, and digits; 0 if there is none
abbrev pub exponent_len : List ℕ → ℕ
exponent_len [] = 0
exponent_len (b ∷ bs) = if b == 101 then with_digits (1 + sign_len bs) (drop (sign_len bs) bs) else 0

-- a length with that of the exponent behind it, where there is a length
abbrev pub with_exponent : ℕ → List ℕ → ℕ
with_exponent len behind = if len == 0 then 0 else len + exponent_len behind

-- the length of a fraction at the front: a point and digits, and an exponent or none; 0 if there is none
abbrev pub fraction_len : List ℕ → ℕ
fraction_len [] = 0
fraction_len (b ∷ bs) = if b == 46 then with_exponent (with_digits 1 bs) (drop (prefix_len is_ascii_digit bs) bs) else 0
