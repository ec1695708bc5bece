-- The code rule of the step.
use Rattle.std.specs.Prelude.{◌≡◌, ℕ, List, Bool}
use Rattle.mir_func.specs.Function.{Function}
use Rattle.pass_trait.specs.Code.{CodeRule}
use Rattle.scan_rule.specs.scan_intervals.declared.interval.LiveInterval.{LiveInterval}
use Rattle.scan_rule.specs.scan_intervals.Liveness.{Decides, at_starts}
use Rattle.scan_rule.specs.scan_intervals.Points.{points_of}
use Rattle.scan_rule.specs.scan_intervals.Intervals.{AreIntervals}
use Rattle.scan_slots.specs.Choice.{settled}

-- the intervals of a function's virtual registers
pub record AreLeft (f : Function) (intervals : List LiveInterval) : Type 0 where
  pub live : ℕ → ℕ → Bool
  pub decides : Decides f live
  pub are : AreIntervals (points_of (at_starts live) f.blocks) intervals

-- its virtual registers live in slots
abbrev pub IsSettled : CodeRule
IsSettled f g = (intervals : List LiveInterval) × AreLeft f intervals × (g ≡ settled intervals f)
