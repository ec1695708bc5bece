use Rattle.std.proofs.Common.{◌≡◌, List, Option, sym, ap, subst, ◌∙◌}
use Rattle.std.specs.Prelude.{IfOk}
use Rattle.rv64_instr.specs.declared.operand.Operand.{Operand}
use Rattle.read_item.specs.Code.{append_to, placed}
use Rattle.read_item.proofs.Operands.{append-before}
use Rattle.read_item.proofs.operand.placed_behind.Goals as goal

pub returns : goal.returns
returns c =
    let rest : Option (List Operand) = placed c.args.places.now c.args.forms.now in
    subst (λ (whole : Option (List Operand)). IfOk c.placed.result (λ operands. operands ≡ whole))
    (ap (λ (xs : List Operand). append_to xs rest) c.in_ok-push.ensures.ok ∙ sym (append-before c.args.first c.args.operand rest)) c.placed.ensures
