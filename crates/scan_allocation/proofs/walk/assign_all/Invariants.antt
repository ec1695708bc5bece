use Rattle.std.proofs.Common.{◌≡◌, ◌++◌, drop}
use Rattle.scan_intervals.specs.Blocked.{is_unmasked}
use Rattle.scan_allocation.specs.Walk.{walk}
use Rattle.scan_allocation.specs.Free.{free_by}
use Rattle.scan_allocation.proofs.walk.assign_all.Given as goal

-- what the intervals so far got, and what the rest get from here on
abbrev pub invariant-loop-i : goal.invariant-loop-i
invariant-loop-i l =
    l.assignments ++ walk (is_unmasked l.blocked.masks.items) l.order (free_by l.free) (drop l.i-index l.intervals) ≡
    walk (is_unmasked l.blocked.masks.items) l.order (λ r. 0) l.intervals
