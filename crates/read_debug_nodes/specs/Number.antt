-- Numbers in fields that may be greater than those of nodes: sizes, offsets, counts and the values of enumerators.
use Rattle.std.specs.Prelude.{ℤ, negsuc, ℕ, ◌-◌, ◌^◌, ◌&&◌, ◌==◌, nat_le, if◌then◌else◌, List, [], ◌∷◌, Option, Some, None}
use Rattle.read_metadata.specs.Number.{value_behind, zero_alone as zero_or_none}
use Rattle.read_debug_nodes.specs.declared.number.EnumeratorValue.{EnumeratorValue}

-- sizes, offsets and counts are at most this
abbrev pub MAX_SIZE : ℕ
MAX_SIZE = 2 ^ 62 - 1

-- the value of digits in a base, if it is at most this
unfoldable pub spelled_within : (base most : ℕ) → List ℕ → Option ℕ
spelled_within base most digits = if nat_le (value_behind base 0 digits) most then Some (value_behind base 0 digits) else None

-- a number, if it is 0
abbrev pub zero_alone : Option ℕ → Option ℕ
zero_alone n = zero_or_none n

-- a number without a sign: digits, or `0x` and hexadecimal digits
abbrev pub unsigned_within : (most : ℕ) → List ℕ → Option ℕ
unsigned_within most (a ∷ b ∷ bs) = if a == 48 && b == 120 then spelled_within 16 most bs else spelled_within 10 most (a ∷ b ∷ bs)
unsigned_within most text = spelled_within 10 most text

-- the value of an integer token; after `-` only 0 is accepted
abbrev pub integer_within : (most : ℕ) → List ℕ → Option ℕ
integer_within most [] = spelled_within 10 most []
integer_within most (a ∷ bs) = if a == 45 then zero_alone (spelled_within 10 most bs) else unsigned_within most (a ∷ bs)

-- a value that isn't negative
abbrev pub not_negative : Option ℕ → Option EnumeratorValue
not_negative None = None
not_negative (Some n) = Some (record { value = n; negative = None })

-- the value behind a minus, from its magnitude
abbrev pub below_zero : ℕ → Option EnumeratorValue
below_zero n = if n == 0 then not_negative (Some 0) else Some (record { value = 0; negative = Some (negsuc (n - 1)) })

abbrev pub negative_of : Option ℕ → Option EnumeratorValue
negative_of None = None
negative_of (Some n) = below_zero n

-- the value of an integer token as that of an enumerator, from -2^63 to 2^64 - 1
abbrev pub enumerator_value : List ℕ → Option EnumeratorValue
enumerator_value [] = not_negative (unsigned_within (2 ^ 64 - 1) [])
enumerator_value (a ∷ bs) = if a == 45 then negative_of (spelled_within 10 (2 ^ 63) bs) else not_negative (unsigned_within (2 ^ 64 - 1) (a ∷ bs))
