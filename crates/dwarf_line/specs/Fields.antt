-- The fields of a section, read from the left. The result is a field's value and the bytes after it, or for a wrong field the
-- number of bytes left from the field on.
use Rattle.std.specs.Prelude.{ℕ, zero, suc, ℤ, pos, negsuc, ◌+◌, ◌-◌, ◌+ℤ◌, ◌-ℤ◌, ◌^◌, Option, Some, None, Result, Ok, Err, List, [], ◌∷◌, length, take, drop}
use Rattle.std.specs.Prelude.{◌==◌, nat_eq, nat_lt, if◌then◌else◌}
use Rattle.std.specs.Option.{ok_or}
use Rattle.std.specs.List.{starts_with}
use Rattle.std.specs.Int.{Width, byte_len, from_le_bytes}
use Rattle.dwarf_base.specs.Leb.{uleb_of, sleb_of, unsigned_value, signed_value}

-- a field, and then what is read after it
infixl 10 ◌>>=◌
-- a wrong field is the fault of the whole, and nothing after it is read
abbrev pub ◌>>=◌ : {A B : Type 0} → Result A ℕ → (A → Result B ℕ) → Result B ℕ
(Ok x) >>= f = f x
(Err left) >>= f = Err left

-- fields of one byte that have one value each
abbrev pub constants_at : List ℕ → List ℕ → Result (List ℕ) ℕ
constants_at [] bytes = Ok bytes
constants_at (n ∷ fields) [] = Err 0
constants_at (n ∷ fields) (b ∷ bytes) = if b == n then constants_at fields bytes else Err (length (b ∷ bytes))

-- a little-endian number
abbrev pub number_at : Width → List ℕ → Result (ℕ × List ℕ) ℕ
number_at w bytes =
    if nat_lt (length bytes) (byte_len w) then Err (length bytes)
    else Ok (from_le_bytes w (take (byte_len w) bytes), drop (byte_len w) bytes)

-- the bytes up to the first one without its high bit: those of a LEB128 number (section 7.6)
abbrev pub leb_front : List ℕ → List ℕ
leb_front [] = []
leb_front (b ∷ bytes) = if nat_lt b 128 then b ∷ [] else b ∷ leb_front bytes

-- a number whose encoding is at the front
abbrev pub spelled_at : (ℕ → List ℕ) → List ℕ → Option ℕ → Result (ℕ × List ℕ) ℕ
spelled_at spell bytes None = Err (length bytes)
spelled_at spell bytes (Some n) =
    if starts_with nat_eq bytes (spell n) then Ok (n, drop (length (spell n)) bytes) else Err (length bytes)

-- a number, if it is below a limit
abbrev pub below : ℕ → ℕ → Option ℕ
below limit n = if nat_lt n limit then Some n else None

-- a signed number, if it is not negative and below a limit
abbrev pub natural_below : ℕ → ℤ → Option ℕ
natural_below limit (pos n) = below limit n
natural_below limit (negsuc n) = None

-- an unsigned LEB128 number below a limit, in its shortest encoding
unfoldable pub uleb_at : ℕ → List ℕ → Result (ℕ × List ℕ) ℕ
uleb_at limit bytes = spelled_at uleb_of bytes (below limit (unsigned_value (leb_front bytes)))

-- the address after an advance by an unsigned LEB128 number. It must be below 2^64
unfoldable pub advanced_at : ℕ → List ℕ → Result (ℕ × List ℕ) ℕ
advanced_at from bytes = spelled_at (λ to. uleb_of (to - from)) bytes (below (2 ^ 64) (from + unsigned_value (leb_front bytes)))

-- the line after an advance by a signed LEB128 number. It must be from 0 to 2^32 - 1
unfoldable pub line_at : ℕ → List ℕ → Result (ℕ × List ℕ) ℕ
line_at from bytes = spelled_at (λ to. sleb_of (pos to -ℤ pos from)) bytes (natural_below (2 ^ 32) (pos from +ℤ signed_value (leb_front bytes)))

-- the bytes after the first zero byte
abbrev pub behind_zero : List ℕ → Option (List ℕ)
behind_zero [] = None
behind_zero (zero ∷ bytes) = Some bytes
behind_zero (suc b ∷ bytes) = behind_zero bytes

-- the bytes after a string, which ends at its first zero byte
abbrev pub behind_text : List ℕ → Result (List ℕ) ℕ
behind_text bytes = ok_or (behind_zero bytes) (length bytes)
