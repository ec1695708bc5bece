use Rattle.std.proofs.Common.{◌≡◌, map, take}
use Rattle.spill_code.specs.Rewrite.{renamed_operand}
use Rattle.scan_debug.specs.scan_allocation.Coloring.{now}
use Rattle.scan_stale.specs.scan_choice.Given.{given_by}
use Rattle.scan_allot.proofs.code.renamed_operands.Given as goal

abbrev pub invariant-loop-operand : goal.invariant-loop-operand
invariant-loop-operand l =
    l.renamed ≡ map (renamed_operand (now (given_by l.given)) (now (given_by l.given))) (take l.operand-index l.operands)
