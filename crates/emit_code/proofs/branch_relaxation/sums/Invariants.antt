use Rattle.std.proofs.Common.{◌≡◌, ◌≤◌, ◌*◌, ◌++◌, drop}
use Rattle.emit_code.specs.steps.Spans.{sums_from}
use Rattle.emit_code.proofs.branch_relaxation.sums.Given as goal

abbrev pub invariant-loop-span : goal.invariant-loop-span
invariant-loop-span l = record {
  listed : l.sums ++ sums_from l.sum (drop l.span-index l.spans) ≡ sums_from 0 l.spans;
  low : l.sum ≤ 8 * l.span-index;
}
