use Rattle.std.proofs.Common.{◌≡◌, List, None, cond, ap, ◌∙◌}
use Rattle.rv64_instr.specs.declared.operand.Operand.{Operand}
use Rattle.rv64_instr.specs.LocationEffects.{is_passed}
use Rattle.remat_pass.specs.Table.{known_by}
use Rattle.remat_pass.proofs.Learning.{call_forgets}
use Rattle.remat_pass.proofs.known.Known.forget.Goals as goal

pub returns-in-Calls : goal.returns-in-Calls
returns-in-Calls c =
    let bare = known_by c.remove_registers.new.self.registers c.remove_registers.new.self.slots in
    let same : c.as_slice.result.now ≡ c.args.i.now.operands = c.as_slice.ensures ∙ ap (λ i. i.operands) c.i.view_is in
    call_forgets c.args.i.now c.in-Calls.field-0 c.in-Calls.ensures.row (known_by c.args.self.now.registers c.args.self.now.slots) bare
    (known_by c.remove_passed.new.self.registers c.remove_passed.new.self.slots) c.remove_registers.ensures
    (λ x. c.remove_passed.ensures x ∙ ap (λ (os : List Operand). cond (is_passed x os) None (bare x)) same)
