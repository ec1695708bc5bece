use Rattle.std.proofs.Common.{◌≡◌, ◌&&◌, not, List, ap, ◌∙◌}
use Rattle.rv64_instr.specs.declared.operand.Operand.{Operand}
use Rattle.rv64_instr.specs.LocationEffects.{is_passed}
use Rattle.pass_liveness.specs.Sets.{has}
use Rattle.pass_liveness.proofs.Passing.{call_removed}
use Rattle.pass_liveness.proofs.names.SlotAndBlockNumbers.remove_defined.Goals as goal

pub returns-in-Calls : goal.returns-in-Calls
returns-in-Calls c =
    let slots = c.args.self.now.slots in
    let shows = c.in-Calls.ensures.row in
    let same : c.as_slice.result.now ≡ c.args.i.now.operands = c.as_slice.ensures ∙ ap (λ i. i.operands) c.i.view_is in
    call_removed c.args.i.now shows.0 shows.1 (has slots c.args.set.now) (has slots c.remove_registers.new.set) (has slots c.remove_passed.new.set)
    c.remove_registers.ensures
    (λ x. c.remove_passed.ensures x ∙ ap (λ (os : List Operand). has slots c.remove_registers.new.set x && not (is_passed x os)) same)
