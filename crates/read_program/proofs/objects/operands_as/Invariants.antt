use Rattle.std.proofs.Common.{◌≡◌, map, take}
use Rattle.read_program.specs.Objects.{operand_as}
use Rattle.read_program.proofs.objects.operands_as.Given as goal

abbrev pub invariant-loop-operand : goal.invariant-loop-operand
invariant-loop-operand l = l.renamed ≡ map (operand_as l.ids) (take l.operand-index l.operands)
