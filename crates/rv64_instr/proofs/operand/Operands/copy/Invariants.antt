use Rattle.std.proofs.Common.{◌≡◌, take}
use Rattle.rv64_instr.proofs.operand.Operands.copy.Given as goal

abbrev pub invariant-loop-operand : goal.invariant-loop-operand
invariant-loop-operand l = l.items.items ≡ take l.operand-index l.operand-items
