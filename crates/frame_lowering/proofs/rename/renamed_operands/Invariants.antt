use Rattle.std.proofs.Common.{◌≡◌, map, take}
use Rattle.frame_rule.specs.Rule.{renamed_operand}
use Rattle.frame_lowering.proofs.rename.renamed_operands.Given as goal

abbrev pub invariant-loop-operand : goal.invariant-loop-operand
invariant-loop-operand l = l.made ≡ map (renamed_operand l.slots) (take l.operand-index l.operands)
