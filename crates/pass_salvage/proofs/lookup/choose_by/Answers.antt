use Rattle.std.proofs.Common.{drop, suc, sym, ◌∙◌}
use Rattle.rv64_instr.specs.Row.{row_of}
use Rattle.rv64_instr.specs.LocationEffects.{is_call}
use Rattle.pass_salvage.specs.SalvageAction.{first_definition, going_from}
use Rattle.pass_salvage.specs.Above.{action_unless}
use Rattle.pass_salvage.proofs.Chosen.{chosen_at}
use Rattle.pass_salvage.proofs.Indexed.{way_is}
use Rattle.pass_salvage.proofs.lookup.choose_by.Goals as goal

pub returns-in-Code : goal.returns-in-Code
returns-in-Code c =
    let above = c.args.above.now in
    let removed = going_from 0 c.args.removed.now in
    let subs = c.args.subs.now in
    let d = c.args.d in
    let way-is = chosen_at removed subs c.args.fresh c.args.number c.args.source above d c.index-above-d.result _
    c.requires.free c.requires.last c.requires.at c.in-Code.is in
    c.action_unless.ensures ∙
    (λ i. action_unless (c.is_barred-barred.ensures c.requires.lookup i) subs c.args.fresh d c.in-Code.n (c.first_definition-operand.ensures i)) ∙
    sym (way_is removed subs c.args.fresh c.args.number d c.in-Code.n
    (first_definition (is_call (row_of c.in-Code.i)) c.args.source c.in-Code.i.operands) (drop (suc d) above)) ∙ sym way-is

pub returns-in-Mark : goal.returns-in-Mark
returns-in-Mark c =
    sym (chosen_at (going_from 0 c.args.removed.now) c.args.subs.now c.args.fresh c.args.number c.args.source c.args.above.now c.args.d c.index-above-d.result _
    c.requires.free c.requires.last c.requires.at c.in-Mark.is)

pub returns-in-Phi : goal.returns-in-Phi
returns-in-Phi c =
    sym (chosen_at (going_from 0 c.args.removed.now) c.args.subs.now c.args.fresh c.args.number c.args.source c.args.above.now c.args.d c.index-above-d.result _
    c.requires.free c.requires.last c.requires.at c.in-Phi.is)
