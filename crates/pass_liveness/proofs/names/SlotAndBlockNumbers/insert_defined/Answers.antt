use Rattle.std.proofs.Common.{◌≡◌, ◌||◌, All, List, ap, sym, ◌∙◌, subst}
use Rattle.rv64_instr.specs.declared.operand.Operand.{Operand}
use Rattle.rv64_instr.specs.LocationEffects.{is_passed}
use Rattle.mir_func.specs.Sound.{PassedIn}
use Rattle.pass_liveness.specs.Sets.{has}
use Rattle.pass_liveness.proofs.Passing.{call_added}
use Rattle.pass_liveness.proofs.names.SlotAndBlockNumbers.insert_defined.Goals as goal

pub returns-in-Calls : goal.returns-in-Calls
returns-in-Calls c = λ sound.
    let slots = c.args.self.now.slots in
    let shows = c.in-Calls.ensures.row in
    let same : c.as_slice.result.now ≡ c.args.i.now.operands = c.as_slice.ensures ∙ ap (λ i. i.operands) c.i.view_is in
    call_added c.args.i.now shows.0 shows.1 (has slots c.args.set.now) (has slots c.insert_registers.new.set) (has slots c.insert_passed.new.set)
    c.insert_registers.ensures
    (λ x. c.insert_passed.ensures (subst (λ (os : List Operand). All (PassedIn slots) os) (sym same) sound.1) x
    ∙ ap (λ (os : List Operand). is_passed x os || has slots c.insert_registers.new.set x) same)
