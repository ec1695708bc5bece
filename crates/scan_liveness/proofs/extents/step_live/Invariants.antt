use Rattle.std.proofs.Common.{◌+◌, cond, ◌||◌}
use Rattle.scan_liveness.specs.Described.{is_in, point_of, stepped_at}
use Rattle.scan_liveness.proofs.Touched.{Updated}
use Rattle.scan_liveness.proofs.extents.step_live.Given as goal

abbrev pub invariant-loop-k : goal.invariant-loop-k
invariant-loop-k l =
    Updated (λ j o. cond (is_in l.numbers.slots l.pending (j + 32) || (is_in l.numbers.slots l.before (j + 32) || is_in l.numbers.slots l.after (j + 32)))
    (stepped_at (is_in l.numbers.slots l.pending) (point_of l.numbers.slots l.before l.after l.i) l.at (j + 32) o) o)
    l.initial.extents.items l.extents.items l.k
