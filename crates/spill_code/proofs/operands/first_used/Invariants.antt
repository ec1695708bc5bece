use Rattle.std.proofs.Common.{◌≡◌, drop}
use Rattle.spill_code.specs.Rewrite.{first_used}
use Rattle.spill_code.proofs.operands.first_used.Given as goal

abbrev pub invariant-loop-operand : goal.invariant-loop-operand
invariant-loop-operand l = first_used l.homes l.operands ≡ first_used l.homes (drop l.operand-index l.operands)
