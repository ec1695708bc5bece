use Rattle.std.proofs.Common.{◌≡◌, ◌++◌, drop}
use Rattle.read_program.proofs.ends.push_all.Given as goal

abbrev pub invariant-loop-operand : goal.invariant-loop-operand
invariant-loop-operand l = l.made ++ drop l.operand-index l.operands ≡ l.initial.made ++ l.operands
