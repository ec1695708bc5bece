use Rattle.std.proofs.Common.{◌≡◌, drop}
use Rattle.spill_code.specs.Rewrite.{other_used}
use Rattle.spill_code.proofs.operands.other_used.Given as goal

abbrev pub invariant-loop-operand : goal.invariant-loop-operand
invariant-loop-operand l = other_used l.homes l.slot l.operands ≡ other_used l.homes l.slot (drop l.operand-index l.operands)
