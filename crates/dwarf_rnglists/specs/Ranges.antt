-- The content of range lists, without their encoding.
use Rattle.std.specs.Prelude.{ℕ, ◌^◌, ◌<◌, ◌≤◌, List, [], ◌∷◌, All, Contains}
use Rattle.dwarf_rnglists.specs.declared.range.AddressRange.{AddressRange}

-- ascending ranges: each is nonempty and ends below the start of the next, so that no two of them touch
abbrev pub Ascend : List AddressRange → Type 0
Ascend [] = Unit {0}
Ascend (r ∷ []) = r.lo < r.hi
Ascend (r ∷ s ∷ rest) = (r.lo < r.hi) × (r.hi < s.lo) × Ascend (s ∷ rest)

-- addresses fit in 64 bits
abbrev pub Are64Bit : List AddressRange → Type 0
Are64Bit ranges = All (λ r. (r.lo < 2 ^ 64) × (r.hi < 2 ^ 64)) ranges

-- an address is in a range: at its start or after it, and before its end
abbrev pub IsIn : ℕ → AddressRange → Type 0
IsIn address r = (r.lo ≤ address) × (address < r.hi)

-- an address is in one of the ranges
abbrev pub Cover : List AddressRange → ℕ → Type 0
Cover ranges address = (r : AddressRange) × Contains ranges r × IsIn address r
