-- The content of location lists, without their encoding.
use Rattle.std.specs.Prelude.{◌≡◌, ◌≢◌, ℕ, ◌+◌, ◌%◌, ◌^◌, ◌<◌, ◌≤◌, List, [], ◌∷◌, Option, Some, None, nat_le, nat_lt, ◌&&◌, if◌then◌else◌}
use Rattle.std.specs.Prelude.{All, FitsSigned, slice_get, length}
use Rattle.std.specs.Int.{w64}
use Rattle.base_ids.specs.Limits.{MAX_OFFSET}
use Rattle.rv64_instr.specs.declared.place.Place.{Place}
use Rattle.rv64_instr.specs.declared.place.Place.TheVariants.{Register, Slot, Const}
use Rattle.dwarf_loclists.specs.declared.range.Part.{Part}
use Rattle.dwarf_loclists.specs.declared.range.Location.{Location}
use Rattle.dwarf_loclists.specs.declared.range.Location.TheVariants.{Whole, Parts}
use Rattle.dwarf_loclists.specs.declared.range.Range.{Range}

-- a place that can be written in a location list: x1 to x31 but the stack pointer x2, a doubleword of the frame, or a constant
abbrev pub IsListed : Place → Type 0
IsListed (Register r) = (1 ≤ r) × (r ≤ 31) × (r ≢ 2)
IsListed (Slot offset) = (offset % 8 ≡ 0) × (offset ≤ MAX_OFFSET)
IsListed (Const c) = Unit {0}

-- a piece of a variable after those up to byte `from`: it begins there or later, has 1 to 8 bytes at a place, and ends below 2^32
abbrev pub IsPiece : (from : ℕ) → Part → Type 0
IsPiece from p = (from ≤ p.offset) × (1 ≤ p.length) × (p.length ≤ 8) × (p.offset + p.length < 2 ^ 32) × IsListed p.place

-- pieces in ascending order of the variable's bytes, without overlap
abbrev pub ArePieces : (from : ℕ) → List Part → Type 0
ArePieces from [] = Unit {0}
ArePieces from (p ∷ rest) = IsPiece from p × ArePieces (p.offset + p.length) rest

-- a location that can be written: a place, or at least one piece
abbrev pub IsLocated : Location → Type 0
IsLocated (Whole p) = IsListed p
IsLocated (Parts []) = ⊥
IsLocated (Parts (p ∷ rest)) = ArePieces 0 (p ∷ rest)

-- each range of the list has a location that can be written
abbrev pub ArePlaces : List Range → Type 0
ArePlaces ranges = All (λ r. IsLocated r.location) ranges

-- a constant fits in 64 bits, signed
abbrev pub HasWord : Place → Type 0
HasWord (Register r) = Unit {0}
HasWord (Slot offset) = Unit {0}
HasWord (Const c) = FitsSigned w64 c

-- all constants of a location fit in 64 bits
abbrev pub HasWords : Location → Type 0
HasWords (Whole p) = HasWord p
HasWords (Parts parts) = All (λ p. HasWord p.place) parts

-- addresses and constants fit in 64 bits
abbrev pub Are64Bit : List Range → Type 0
Are64Bit ranges = All (λ r. (r.lo < 2 ^ 64) × (r.hi < 2 ^ 64) × HasWords r.location) ranges

-- the number of places in a location
abbrev pub places_of : Location → ℕ
places_of (Whole p) = 1
places_of (Parts parts) = length parts

-- ascending ranges: each is nonempty and ends where the next begins, or before; two adjacent ones have different locations
abbrev pub Ascend : List Range → Type 0
Ascend [] = Unit {0}
Ascend (r ∷ []) = r.lo < r.hi
Ascend (r ∷ s ∷ rest) = (r.lo < r.hi) × (r.hi ≤ s.lo) × (r.hi ≡ s.lo → r.location ≢ s.location) × Ascend (s ∷ rest)

-- the location at an address: that of the first range that contains it, from its start up to its end, exclusive. Of ascending
-- ranges at most one contains it
abbrev pub location_in : List Range → ℕ → Option Location
location_in [] address = None
location_in (r ∷ rest) address = if nat_le r.lo address && nat_lt address r.hi then Some r.location else location_in rest address

-- the place of a whole variable, and None for pieces or no location
abbrev pub whole_place : Option Location → Option Place
whole_place None = None
whole_place (Some (Whole p)) = Some p
whole_place (Some (Parts parts)) = None

-- the n-th piece, counted from 0, and None for a whole variable
abbrev pub nth_piece : Option Location → ℕ → Option Part
nth_piece None n = None
nth_piece (Some (Whole p)) n = None
nth_piece (Some (Parts parts)) n = slice_get parts n

-- the place of the whole variable at an address
abbrev pub place_in : List Range → ℕ → Option Place
place_in ranges address = whole_place (location_in ranges address)
