use Rattle.std.proofs.Common.{sym, ap, ◌∙◌, subst, IsTrue, Bool}
use Rattle.rv64_instr.specs.Form.{has_form}
use Rattle.copyprop_block.proofs.Forms.{form_renamed}
use Rattle.copyprop_block.proofs.roots.rename.Goals as goal

pub invariant_of-i : goal.invariant_of-i
invariant_of-i c =
    subst (λ (b : Bool). IsTrue b) (sym (ap (has_form c.i.inside.op) c.rename_all.ensures ∙ form_renamed c.args.roots.now c.i.inside.op c.i.inside.operands))
    c.i.invariant
