use Rattle.std.proofs.Common.{List, map, subst, ap, sym, ◌∙◌}
use Rattle.std.specs.Prelude.{IsTrue}
use Rattle.mir_func.specs.rv64_instr.declared.operand.Operand.{Operand}
use Rattle.mir_func.specs.rv64_instr.Form.{has_form}
use Rattle.spill_code.specs.Rewrite.{use_now, def_now, renamed_operand}
use Rattle.spill_code.proofs.Forms.{form_same}
use Rattle.spill_code.proofs.operands.spilled_code.Goals as goal

pub invariant_of-result : goal.invariant_of-result
invariant_of-result c =
    let s = c.args.s.now in
    let slot = c.first_used-slot.result in
    let made = c.in_ok-renamed_operands.ensures ∙ ap (map (renamed_operand (use_now s slot) (def_now s))) c.as_slice-3.ensures in
    subst (λ (os : List Operand). IsTrue (has_form c.i.inside.op os)) (sym made)
    (form_same (use_now s slot) (def_now s) c.i.inside.op c.i.inside.operands ∙ c.i.invariant)
