-- The extents of registers over points of code. Points are counted from the last one, which has the index 0.
use Rattle.std.specs.Prelude.{ℕ, ◌+◌, ◌-◌, ◌<◌, suc, List, [], ◌∷◌, length, Option, Some, None, Bool, true, false}
use Rattle.scan_intervals.specs.declared.interval.LiveInterval.{LiveInterval}
use Rattle.scan_intervals.specs.Points.{CodePoint}
use Rattle.scan_liveness.specs.declared.extents.Extent.{Extent}

-- the extent that begins at this point, and ends where it ended, if there was one
abbrev pub from_here : ℕ → Option Extent → Option Extent
from_here k None = Some (record { first = k; last = k })
from_here k (Some e) = Some (record { first = k; last = e.last })

-- it begins at this point, if that passes a test
abbrev pub widened : (passes : Bool) → ℕ → Option Extent → Option Extent
widened true k o = from_here k o
widened false k o = o

-- The extent after a point of this index that touches its register, or not. An extent that was pending goes on to the point behind; it is kept as it is
-- while it stays pending, and is widened where it no longer is
abbrev pub stepped : (was_pending is_pending touched : Bool) → (at : ℕ) → Option Extent → Option Extent
stepped true true touched at o = o
stepped true false true at o = from_here at o
stepped true false false at o = from_here (at - 1) o
stepped false stays touched at o = widened touched at o

-- the extent of the points that pass a test
abbrev pub extent_in : (CodePoint → Bool) → List CodePoint → Option Extent
extent_in test [] = None
extent_in test (p ∷ ps) = widened (test p) (length ps) (extent_in test ps)

-- the extent, if there is one, is one over so many points
abbrev pub IsWithin : (count : ℕ) → Option Extent → Type 0
IsWithin count None = Unit {0}
IsWithin count (Some e) = (e.first < count) × (e.last < count)

-- the interval of a register of this extent, among so many points
abbrev pub interval_of : (count register : ℕ) → Extent → LiveInterval
interval_of count r e = record { register = r; start = count - suc e.first; end = count - suc e.last }

-- the intervals of the registers of these extents, the first of which is that of this register
abbrev pub intervals_from : (count register : ℕ) → List (Option Extent) → List LiveInterval
intervals_from count r [] = []
intervals_from count r (None ∷ os) = intervals_from count (r + 1) os
intervals_from count r (Some e ∷ os) = interval_of count r e ∷ intervals_from count (r + 1) os
