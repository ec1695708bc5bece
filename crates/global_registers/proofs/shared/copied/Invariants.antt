use Rattle.std.proofs.Common.{◌≡◌, take}
use Rattle.global_registers.proofs.shared.copied.Given as goal

abbrev pub invariant-loop-operand : goal.invariant-loop-operand
invariant-loop-operand l = l.made ≡ take l.operand-index l.operands
