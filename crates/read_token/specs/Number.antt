-- The values of numbers: digits, `0x` and hexadecimal digits, and a `-` before digits.
use Rattle.std.specs.Prelude.{ℕ, zero, suc, pos, negsuc, ◌^◌, Bool, ◌&&◌, not, ◌==◌, min, nat_lt, if◌then◌else◌, length, List, [], ◌∷◌, Option, Some, None}
use Rattle.std.specs.List.{prefix_len}
use Rattle.std.specs.Char.{is_ascii_digit}
use Rattle.read_metadata.specs.Number.{value_behind}
use Rattle.read_token.specs.declared.lexeme.Number.{Number}
use Rattle.read_token.specs.declared.lexeme.Number.TheVariants.{Fits, Large, Wide}

-- the value that replaces every number above the limit
abbrev pub BEYOND : ℕ
BEYOND = 1073741824

-- the value of digits in a base
abbrev pub value_of : ℕ → List ℕ → ℕ
value_of base digits = value_behind base 0 digits

-- a number, if it is below 2^128
abbrev pub narrow : ℕ → Option ℕ
narrow n = if nat_lt n (2 ^ 128) then Some n else None

-- the value of digits in a base, if it is below 2^128
unfoldable pub narrow_value : ℕ → List ℕ → Option ℕ
narrow_value base digits = narrow (value_of base digits)

-- The value of decimal digits that are a number or count, and `BEYOND` if it is above the limit.
unfoldable pub limited : List ℕ → ℕ
limited digits = min (value_of 10 digits) BEYOND

-- digits, at least one, and nothing else
abbrev pub is_number : List ℕ → Bool
is_number text = not (length text == 0) && prefix_len is_ascii_digit text == length text

-- an integer without a sign, from its absolute value
abbrev pub unsigned : ℕ → Number
unsigned n = if nat_lt n (2 ^ 63) then Fits (pos n) else Large

-- an integer after `-`, from its absolute value
abbrev pub negated : ℕ → Number
negated zero = Fits (pos 0)
negated (suc n) = if nat_lt n (2 ^ 63) then Fits (negsuc n) else Large

-- an integer from its absolute value; `Wide` if that is 2^128 or more
abbrev pub sized : (ℕ → Number) → Option ℕ → Number
sized read None = Wide
sized read (Some n) = read n

-- an integer without a sign: digits, or `0x` and hexadecimal digits
abbrev pub unsigned_of : ℕ → List ℕ → Number
unsigned_of a [] = sized unsigned (narrow_value 10 (a ∷ []))
unsigned_of a (b ∷ bs) = if a == 48 && b == 120 then sized unsigned (narrow_value 16 bs) else sized unsigned (narrow_value 10 (a ∷ b ∷ bs))

-- the value of an integer token
abbrev pub number_of : List ℕ → Number
number_of [] = sized unsigned (narrow_value 10 [])
number_of (a ∷ bs) = if a == 45 then sized negated (narrow_value 10 bs) else unsigned_of a bs
