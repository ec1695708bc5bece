use Rattle.std.proofs.Common.{◌≡◌, ◌+◌, ◌++◌, drop}
use Rattle.scan_liveness.specs.Extents.{intervals_from}
use Rattle.scan_liveness.proofs.intervals.push_all.Given as goal

abbrev pub invariant-loop-k : goal.invariant-loop-k
invariant-loop-k l = l.intervals ++ intervals_from l.count (l.k + 32) (drop l.k l.extents) ≡ intervals_from l.count 32 l.extents
