-- Bytes and addresses in lower-case hexadecimal.
use Rattle.std.specs.Prelude.{ℕ, zero, suc, ◌+◌, ◌/◌, ◌%◌, ◌^◌, cond, nat_lt, nat_eq, List, [], ◌∷◌, ◌++◌}

-- the ASCII code of a digit: `0` to `9`, `a` to `f`
abbrev pub hex_digit : ℕ → ℕ
hex_digit n = cond (nat_lt n 10) (48 + n) (87 + n)

-- a byte in two digits, the high one first
abbrev pub hex_byte : ℕ → List ℕ
hex_byte b = hex_digit (b / 16) ∷ hex_digit (b % 16) ∷ []

-- a line feed at the end of a line, if the line has bytes
abbrev pub line_end : (column : ℕ) → List ℕ
line_end zero = []
line_end (suc n) = 10 ∷ []

-- the lines of bytes, 32 to a line, if the first byte is at this column
abbrev pub hex_lines : (column : ℕ) → List ℕ → List ℕ
hex_lines column [] = line_end column
hex_lines column (b ∷ bs) = hex_byte b ++ cond (nat_eq column 31) (10 ∷ hex_lines 0 bs) (hex_lines (column + 1) bs)

-- an address in eight digits
abbrev pub address_text : ℕ → List ℕ
address_text a = hex_byte (a / 2 ^ 24) ++ hex_byte (a / 2 ^ 16 % 256) ++ hex_byte (a / 2 ^ 8 % 256) ++ hex_byte (a % 256)
