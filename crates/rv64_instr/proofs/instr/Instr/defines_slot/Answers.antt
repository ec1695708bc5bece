use Rattle.std.proofs.Common.{ap, ◌∙◌}
use Rattle.std.specs.List.{list_any}
use Rattle.rv64_instr.specs.Instruction.{Instruction}
use Rattle.rv64_instr.specs.LocationEffects.{is_outgoing}
use Rattle.rv64_instr.proofs.Passed.{passed_set}
use Rattle.rv64_instr.proofs.instr.Instr.defines_slot.Goals as goal

pub returns-in-Calls : goal.returns-in-Calls
returns-in-Calls c =
    let n = c.args.n in
    c.is_passed.ensures ∙ ap (list_any (is_outgoing n)) c.as_slice.ensures ∙ ap (λ (x : Instruction). list_any (is_outgoing n) x.operands) c.self.view_is
    ∙ passed_set c.args.self.now c.in-Calls.field-0 c.in-Calls.ensures.row n
