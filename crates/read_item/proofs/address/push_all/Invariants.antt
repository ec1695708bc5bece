use Rattle.std.proofs.Common.{◌≡◌, ◌++◌, drop}
use Rattle.read_item.proofs.address.push_all.Given as goal

abbrev pub invariant-loop-operand : goal.invariant-loop-operand
invariant-loop-operand l = l.operands ++ drop l.operand-index l.more ≡ l.initial.operands ++ l.more
