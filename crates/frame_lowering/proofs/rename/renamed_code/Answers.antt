use Rattle.std.proofs.Common.{List, map, subst, ap, sym, ◌∙◌}
use Rattle.std.specs.Prelude.{IsTrue}
use Rattle.rv64_instr.specs.declared.operand.Operand.{Operand}
use Rattle.rv64_instr.specs.Form.{has_form}
use Rattle.frame_rule.specs.Rule.{renamed_operand}
use Rattle.frame_rule.proofs.Forms.{form_same}
use Rattle.frame_lowering.proofs.rename.renamed_code.Goals as goal

pub invariant_of-result : goal.invariant_of-result
invariant_of-result c =
    let slots = c.args.slots.now in
    let made = c.in_ok-renamed_operands.ensures ∙ ap (map (renamed_operand slots)) c.as_slice.ensures in
    subst (λ (os : List Operand). IsTrue (has_form c.i.inside.op os)) (sym made) (form_same slots c.i.inside.op c.i.inside.operands ∙ c.i.invariant)
