use Rattle.std.proofs.Common.{◌≡◌, ◌<◌, ◌^◌, length}
use Rattle.emit_code.specs.steps.Spans.{shorts, sums_from, Rounds}
use Rattle.emit_code.proofs.branch_relaxation.settle.Given as goal

abbrev pub invariant-loop-alloc : goal.invariant-loop-alloc
invariant-loop-alloc l = record {
  sums : l.sums ≡ sums_from 0 l.spans;
  few : length l.spans < 2 ^ 18;
  rounds : Rounds l.initial.spans l.spans;
}

abbrev pub decreases-loop-alloc : goal.decreases-loop-alloc
decreases-loop-alloc l = shorts l.spans
