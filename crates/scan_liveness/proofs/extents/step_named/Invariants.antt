use Rattle.std.proofs.Common.{◌+◌, drop}
use Rattle.scan_liveness.specs.Described.{is_in, point_of, stepped_at}
use Rattle.scan_liveness.proofs.Stepped.{Finishes}
use Rattle.scan_liveness.proofs.extents.step_named.Given as goal

abbrev pub invariant-loop-operand : goal.invariant-loop-operand
invariant-loop-operand l =
    Finishes (λ k o. stepped_at (is_in l.numbers.slots l.pending) (point_of l.numbers.slots l.before l.after l.i) l.at (k + 32) o) l.operands
    l.initial.extents.items (drop l.operand-index l.operands) l.extents.items
