-- How much lists give.
use Rattle.std.proofs.Common.{ℕ, ◌+◌, ◌^◌, ◌≤◌, List, [], ◌∷◌, length, arith}
use Rattle.dwarf_loclists.specs.declared.range.Part.{Part}
use Rattle.dwarf_loclists.specs.declared.range.Location.{Location}
use Rattle.dwarf_loclists.specs.declared.range.Location.TheVariants.{Whole, Parts}
use Rattle.dwarf_loclists.specs.Ranges.{IsLocated, ArePieces, places_of}

-- pieces lie one behind the other in fewer than 2^32 bytes
pieces_fit : (from : ℕ) (parts : List Part) → from ≤ 2 ^ 32 → ArePieces from parts → from + length parts ≤ 2 ^ 32
pieces_fit from [] low h = omega (arith, low)
pieces_fit from (p ∷ parts) low h =
    let rest = pieces_fit (p.offset + p.length) parts (omega (arith, h.0.3)) h.1 in
    omega (arith, rest, h.0.0, h.0.1)

pub few_places : (l : Location) → IsLocated l → places_of l ≤ 2 ^ 32
few_places (Whole p) h = omega arith
few_places (Parts []) h = absurd h
few_places (Parts (p ∷ parts)) h = let fit = pieces_fit 0 (p ∷ parts) (omega arith) h in omega (arith, fit)
