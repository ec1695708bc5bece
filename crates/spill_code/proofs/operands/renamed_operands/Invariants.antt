use Rattle.std.proofs.Common.{◌≡◌, map, take}
use Rattle.spill_code.specs.Rewrite.{use_now, def_now, renamed_operand}
use Rattle.spill_code.proofs.operands.renamed_operands.Given as goal

abbrev pub invariant-loop-operand : goal.invariant-loop-operand
invariant-loop-operand l = l.renamed ≡ map (renamed_operand (use_now l.s l.slot) (def_now l.s)) (take l.operand-index l.operands)
