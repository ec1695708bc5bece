use Rattle.std.proofs.Common.{◌+◌, ◌-◌}
use Rattle.scan_liveness.specs.Described.{is_in}
use Rattle.scan_liveness.specs.Extents.{widened}
use Rattle.scan_liveness.proofs.Touched.{Updated}
use Rattle.scan_liveness.proofs.extents.close.Given as goal

abbrev pub invariant-loop-k : goal.invariant-loop-k
invariant-loop-k l =
    Updated (λ j o. widened (is_in l.numbers.slots l.pending (j + 32)) (l.count - 1) o) l.initial.extents.items l.extents.items l.k
