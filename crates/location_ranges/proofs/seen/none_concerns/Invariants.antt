use Rattle.std.proofs.Common.{◌<◌, ℕ}
use Rattle.location_ranges.specs.steps.Seen.{Unconcerned}
use Rattle.location_ranges.proofs.seen.none_concerns.Given as goal

abbrev pub invariant-loop-i : goal.invariant-loop-i
invariant-loop-i l = (k : ℕ) → k < l.i → Unconcerned l.used l.old l.new k
