use Rattle.std.proofs.Common.{◌≡◌, drop}
use Rattle.spill_code.specs.Rewrite.{first_defined}
use Rattle.spill_code.proofs.operands.first_defined.Given as goal

abbrev pub invariant-loop-operand : goal.invariant-loop-operand
invariant-loop-operand l = first_defined l.homes l.operands ≡ first_defined l.homes (drop l.operand-index l.operands)
