use Rattle.std.proofs.Common.{sym, ap, ◌∙◌}
use Rattle.rv64_instr.specs.Instruction.{Instruction}
use Rattle.sim_machine.specs.Departures.{is_leaving}
use Rattle.sim_machine.proofs.Departures.{none_left_at, nothing_told}
use Rattle.sim_machine.proofs.departure.instruction_leaves_for.Goals as goal

pub left_for-requires : goal.left_for-requires
left_for-requires c =
    let same = ap (λ (x : Instruction). is_leaving x.op) c.i.view_is in sym same ∙ (sym c.is_leaving.ensures ∙ c.if-is_leaving.true)

pub returns-in_ok-target : goal.returns-in_ok-target
returns-in_ok-target c = λ s ending stands e. c.in_ok-target.ensures s ending stands e

pub returns-else-is_leaving : goal.returns-else-is_leaving
returns-else-is_leaving c =
    let same = ap (λ (x : Instruction). is_leaving x.op) c.i.view_is in
    nothing_told c.args.hart.now _
    (none_left_at c.i.inside.op c.i.inside.operands c.args.i.now c.i.view_is c.i.invariant
    (sym same ∙ (sym c.is_leaving.ensures ∙ c.if-is_leaving.false)))
