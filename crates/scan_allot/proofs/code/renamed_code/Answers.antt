use Rattle.std.proofs.Common.{List, map, subst, ap, sym, ◌∙◌}
use Rattle.std.specs.Prelude.{IsTrue}
use Rattle.rv64_instr.specs.declared.operand.Operand.{Operand}
use Rattle.rv64_instr.specs.Form.{has_form}
use Rattle.spill_code.specs.Rewrite.{renamed_operand}
use Rattle.spill_code.proofs.Forms.{form_same}
use Rattle.scan_debug.specs.scan_allocation.Coloring.{now}
use Rattle.scan_stale.specs.scan_choice.Given.{given_by}
use Rattle.scan_allot.proofs.code.renamed_code.Goals as goal

pub invariant_of-result : goal.invariant_of-result
invariant_of-result c =
    let u = now (given_by c.args.given.now) in
    let made = c.in_ok-renamed_operands.ensures ∙ ap (map (renamed_operand u u)) c.as_slice.ensures in
    subst (λ (os : List Operand). IsTrue (has_form c.i.inside.op os)) (sym made)
    (form_same u u c.i.inside.op c.i.inside.operands ∙ c.i.invariant)
