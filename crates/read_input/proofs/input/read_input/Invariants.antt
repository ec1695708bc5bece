use Rattle.std.proofs.Common.{◌≡◌, ◌≤◌, ◌+◌, ◌-◌}
use Rattle.read_input.proofs.Pieces.{IsFront}
use Rattle.read_input.proofs.input.read_input.Given as goal

abbrev pub invariant-loop-taken : goal.invariant-loop-taken
invariant-loop-taken g l = record {
  steady : g.S.Source.faults l.input ≡ g.S.Source.faults l.initial.input;
  within : l.taken ≤ l.limit + 1;
  lines : l.reader.program.lines ≤ l.taken;
  front : IsFront l.linked (g.S.Source.left l.initial.input) (g.S.Source.left l.input) l.reader l.taken;
}

abbrev pub decreases-loop-taken : goal.decreases-loop-taken
decreases-loop-taken g l = l.limit + 1 - l.taken
