-- The physical registers that code blocks, as bit masks.
use Rattle.std.specs.Prelude.{◌≡◌, ℕ, suc, ◌-◌, ◌<◌, List, map, take, drop, Bool, not, nat_eq}
use Rattle.std.specs.Int.{bit_at}
use Rattle.std.specs.List.{list_any}
use Rattle.scan_intervals.specs.declared.interval.LiveInterval.{LiveInterval}
use Rattle.scan_intervals.specs.Points.{CodePoint}
use Rattle.scan_intervals.specs.Intervals.{is_blocked}

-- bit r of a mask is set
abbrev pub has_register : (r mask : ℕ) → Bool
has_register r mask = nat_eq (bit_at mask r) 1

-- each point has a mask, of the physical registers that it blocks
abbrev pub AreBlocked : (points : List CodePoint) → (masks : List ℕ) → Type 0
AreBlocked points masks = (r : ℕ) → r < 32 → map (has_register r) masks ≡ map (is_blocked r) points

-- no mask of an interval's points has the register
abbrev pub is_unmasked : (masks : List ℕ) → LiveInterval → (r : ℕ) → Bool
is_unmasked masks i r = not (list_any (has_register r) (take (suc i.end - i.start) (drop i.start masks)))
