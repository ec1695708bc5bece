use Rattle.std.proofs.Common.{Bool, List, ◌||◌, sym, ap, ◌∙◌}
use Rattle.std.specs.List.{list_any}
use Rattle.rv64_instr.specs.Instruction.{Instruction}
use Rattle.rv64_instr.specs.declared.operand.Operand.{Operand}
use Rattle.mir_func.specs.declared.item.ItemKind.{ItemKind}
use Rattle.pass_liveness.specs.Sets.{has_bit}
use Rattle.pass_trait.specs.Causes.{is_of_register, names}
use Rattle.scan_allot.proofs.named.insert_kind.Goals as goal

pub returns-in-Code : goal.returns-in-Code
returns-in-Code c r =
    c.insert_operands.ensures r ∙
    (λ t. list_any (is_of_register (c.has_implicit_uses.ensures t) r)
    ((c.as_slice.ensures ∙ ap (λ (x : Instruction). x.operands) c.i.view_is) t) || has_bit c.args.named.now r) ∙
    sym (ap (λ (k : ItemKind). names r k || has_bit c.args.named.now r) c.in-Code.is)
