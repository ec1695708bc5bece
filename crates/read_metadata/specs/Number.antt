-- The numbers of nodes and in fields, from 0 to 2^30 - 1.
use Rattle.std.specs.Prelude.{ℕ, ◌+◌, ◌*◌, ◌&&◌, ◌==◌, nat_le, if◌then◌else◌, List, [], ◌∷◌, Option, Some, None}
use Rattle.std.specs.Char.{digit_value}
use Rattle.base_ids.specs.Limits.{MAX_NUMBER}

-- the value of digits in a base, after digits with the value `n`
abbrev pub value_behind : ℕ → ℕ → List ℕ → ℕ
value_behind base n [] = n
value_behind base n (d ∷ ds) = value_behind base (n * base + digit_value d) ds

-- a number, if it is within the limit
abbrev pub within_limit : ℕ → Option ℕ
within_limit n = if nat_le n MAX_NUMBER then Some n else None

-- the value of digits in a base, if it is within the limit
unfoldable pub spelled : ℕ → List ℕ → Option ℕ
spelled base digits = within_limit (value_behind base 0 digits)

-- a number, if it is 0
abbrev pub zero_alone : Option ℕ → Option ℕ
zero_alone None = None
zero_alone (Some n) = if n == 0 then Some 0 else None

-- a number without a sign: digits, or `0x` and hexadecimal digits
abbrev pub unsigned_of : ℕ → List ℕ → Option ℕ
unsigned_of a [] = spelled 10 (a ∷ [])
unsigned_of a (b ∷ bs) = if a == 48 && b == 120 then spelled 16 bs else spelled 10 (a ∷ b ∷ bs)

-- The value of an integer token: after `-` only 0 is accepted, since a number must not be negative.
abbrev pub integer_of : List ℕ → Option ℕ
integer_of [] = spelled 10 []
integer_of (a ∷ bs) = if a == 45 then zero_alone (spelled 10 bs) else unsigned_of a bs

-- the number of a node token, `!` and digits
abbrev pub node_number : List ℕ → Option ℕ
node_number [] = None
node_number (b ∷ digits) = spelled 10 digits
