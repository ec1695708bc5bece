use Rattle.std.proofs.Common.{◌≡◌, ◌||◌, ◌&&◌, not, All, List, Option, ap, sym, ◌∙◌, subst}
use Rattle.rv64_instr.specs.declared.operand.Operand.{Operand}
use Rattle.rv64_instr.specs.LocationEffects.{is_passed}
use Rattle.rv64_instr.specs.declared.place.Place.{Place}
use Rattle.mir_func.specs.Sound.{PassedIn, PlaceIn}
use Rattle.pass_liveness.specs.Sets.{has, is_place}
use Rattle.pass_liveness.specs.Steps.{reads_implicitly}
use Rattle.pass_liveness.proofs.Passing.{call_step, callee_in}
use Rattle.pass_liveness.proofs.names.SlotAndBlockNumbers.over_code.Goals as goal

pub returns-in-Calls : goal.returns-in-Calls
returns-in-Calls c = λ sound.
    let slots = c.args.self.now.slots in
    let shows = c.in-Calls.ensures.row in
    let place = c.place.ensures shows.0.callee shows.2 in
    let same : c.as_slice-operands.result.now ≡ c.args.i.now.operands = c.as_slice-operands.ensures ∙ ap (λ i. i.operands) c.i.view_is in
    call_step c.args.i.now shows.0 shows.1 (has slots c.args.set.now) (has slots c.remove_registers.new.set) (has slots c.remove_passed.new.set)
    (has slots c.insert_implicit.new.set) (has slots c.insert_passed.new.set) (has slots c.insert.new.set)
    c.remove_registers.ensures
    (λ x. c.remove_passed.ensures x ∙ ap (λ (os : List Operand). has slots c.remove_registers.new.set x && not (is_passed x os)) same)
    (λ x. c.insert_implicit.ensures x ∙ ap (λ (os : List Operand). reads_implicitly x os || has slots c.remove_passed.new.set x) same)
    (λ x. c.insert_passed.ensures (subst (λ (os : List Operand). All (PassedIn slots) os) (sym same) sound.1) x
    ∙ ap (λ (os : List Operand). is_passed x os || has slots c.insert_implicit.new.set x) same)
    (λ x. c.insert.ensures (subst (PlaceIn slots) (sym place) (callee_in slots shows.0.callee)) x
    ∙ ap (λ (p : Option Place). is_place x p || has slots c.insert_passed.new.set x) place)
