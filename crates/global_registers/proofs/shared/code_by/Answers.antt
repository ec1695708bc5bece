use Rattle.std.proofs.Common.{List, subst, ap, sym, ◌∙◌}
use Rattle.std.specs.Prelude.{IsTrue}
use Rattle.rv64_instr.specs.declared.operand.Operand.{Operand}
use Rattle.rv64_instr.specs.Form.{has_form}
use Rattle.global_registers.specs.Shared.{operands_by}
use Rattle.global_registers.proofs.Behind.{form_shared}
use Rattle.global_registers.proofs.shared.code_by.Goals as goal

pub invariant_of-result : goal.invariant_of-result
invariant_of-result c =
    let made = c.in_ok-operands_by.ensures ∙ ap (operands_by c.args.shares) (sym c.i.view_is) in
    subst (λ (os : List Operand). IsTrue (has_form c.i.inside.op os)) (sym made)
    (form_shared c.args.shares (record { op = c.i.inside.op; operands = c.i.inside.operands; volatile = c.i.inside.volatile }) c.i.invariant)
