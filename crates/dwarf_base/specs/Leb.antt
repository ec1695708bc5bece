-- Numbers in LEB128 (DWARF 5 section 7.6): the value of its bytes, and the unique shortest encoding of a number.
use Rattle.std.specs.Prelude.{ℕ, zero, suc, ℤ, pos, negsuc, ◌+◌, ◌-◌, ◌*◌, ◌/◌, ◌%◌, ◌<◌, ◌≤◌, ◌+ℤ◌, ◌-ℤ◌, ◌*ℤ◌, Bool, true, false, List, [], ◌∷◌, nat_lt}
use Rattle.std.specs.Prelude.{if◌then◌else◌}

-- each byte but the last has its high bit set
abbrev pub IsLeb : List ℕ → Type 0
IsLeb [] = ⊥
IsLeb (b ∷ []) = b < 128
IsLeb (b ∷ c ∷ rest) = (128 ≤ b) × (b < 256) × IsLeb (c ∷ rest)

-- the number that bytes encode: the low seven bits of each, the least significant first
abbrev pub unsigned_value : List ℕ → ℕ
unsigned_value [] = 0
unsigned_value (b ∷ rest) = b % 128 + 128 * unsigned_value rest

-- the same with a sign, which is bit 6 of the last byte
abbrev pub signed_value : List ℕ → ℤ
signed_value [] = pos 0
signed_value (b ∷ []) = if nat_lt (b % 128) 64 then pos (b % 128) else pos (b % 128) -ℤ pos 128
signed_value (b ∷ c ∷ rest) = pos (b % 128) +ℤ (pos 128 *ℤ signed_value (c ∷ rest))

-- seven bits, inverted for the complement of a negative number
abbrev pub group : (complement : Bool) → ℕ → ℕ
group false bits = bits
group true bits = 127 - bits

-- the groups of seven bits of a number: at most this many before the last one, which is below the limit
unfoldable pub groups : (most limit : ℕ) (complement : Bool) → ℕ → List ℕ
groups zero limit complement n = group complement n ∷ []
groups (suc most) limit complement n =
    if nat_lt n limit then group complement n ∷ []
    else (128 + group complement (n % 128)) ∷ groups most limit complement (n / 128)

-- the shortest unsigned encoding of a number of any size: n groups are enough for n
unfoldable pub uleb_of : ℕ → List ℕ
uleb_of n = groups n 128 false n

-- the shortest signed encoding of a number: -1 - n has the inverted bits of n
unfoldable pub sleb_of : ℤ → List ℕ
sleb_of (pos n) = groups n 64 false n
sleb_of (negsuc n) = groups n 64 true n
