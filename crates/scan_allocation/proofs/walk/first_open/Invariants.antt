use Rattle.std.proofs.Common.{◌≡◌, drop}
use Rattle.scan_intervals.specs.Blocked.{is_unmasked}
use Rattle.scan_allocation.specs.Walk.{find_in, is_open}
use Rattle.scan_allocation.specs.Free.{free_by}
use Rattle.scan_allocation.proofs.walk.first_open.Given as goal

-- none of the registers so far is open
abbrev pub invariant-loop-r : goal.invariant-loop-r
invariant-loop-r l =
    find_in (is_open (is_unmasked l.blocked.masks.items) (free_by l.free) l.i) (drop l.r-index l.order) ≡
    find_in (is_open (is_unmasked l.blocked.masks.items) (free_by l.free) l.i) l.order
