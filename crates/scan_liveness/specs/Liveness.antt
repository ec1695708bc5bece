-- What linear scan register allocation needs of a function's liveness.
use Rattle.std.specs.Prelude.{ℕ, List, Bool}
use Rattle.mir_func.specs.Function.{Function}
use Rattle.scan_intervals.specs.declared.interval.LiveInterval.{LiveInterval}
use Rattle.scan_intervals.specs.Liveness.{Decides, at_starts}
use Rattle.scan_intervals.specs.Points.{points_of}
use Rattle.scan_intervals.specs.Intervals.{AreIntervals}
use Rattle.scan_intervals.specs.Blocked.{AreBlocked}

-- the live intervals of its virtual registers, and for each code the mask of the physical registers that it blocks
pub record IsLiveness (f : Function) (intervals : List LiveInterval) (masks : List ℕ) : Type 0 where
  pub live : ℕ → ℕ → Bool
  pub decides : Decides f live
  pub are : AreIntervals (points_of (at_starts live) f.blocks) intervals
  pub blocked : AreBlocked (points_of (at_starts live) f.blocks) masks
