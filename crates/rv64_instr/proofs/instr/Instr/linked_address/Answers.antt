use Rattle.std.proofs.Common.{List, ap, sym, ◌∙◌}
use Rattle.rv64_instr.specs.declared.operand.Operand.{Operand}
use Rattle.rv64_instr.specs.Instruction.{Instruction}
use Rattle.rv64_instr.specs.LocationEffects.{address_named, part_address}
use Rattle.rv64_instr.specs.Row.{row_of}
use Rattle.rv64_instr.specs.steps.Linked.{early_part}
use Rattle.rv64_instr.proofs.Halves.{named_early}
use Rattle.rv64_instr.proofs.instr.Instr.linked_address.Goals as goal

pub returns : goal.returns
returns c =
    let i = c.self.inside in
    c.early_address.ensures ∙ ap (λ (os : List Operand). part_address (early_part os)) c.as_slice.ensures
    ∙ ap part_address (sym (named_early i.op i.operands c.self.invariant)) ∙ ap (λ (x : Instruction). address_named (row_of x)) c.self.view_is
