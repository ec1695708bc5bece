use Rattle.std.proofs.Common.{sym, ap, ◌∙◌}
use Rattle.emit_code.specs.Laid.{LaidCode}
use Rattle.sim_machine.specs.steps.Sites.{instruction_in}
use Rattle.sim_machine.proofs.Departures.{nothing_told, told_so}
use Rattle.sim_machine.proofs.Sites.{leaves_found, nothing_found}
use Rattle.sim_machine.proofs.departure.entry_leaves_for.Goals as goal

pub returns-in-Some : goal.returns-in-Some
returns-in-Some c =
    let f = ap (λ (x : LaidCode). instruction_in x.framed c.args.entry.now.point) c.code.view_is in
    told_so c.args.hart.now _ _ (sym (leaves_found c.args.code.now.framed c.args.entry.now c.in-Some.i.now (sym f ∙ c.in-Some.ensures)))
    c.instruction_leaves_for.result c.instruction_leaves_for.ensures

pub returns-in-None : goal.returns-in-None
returns-in-None c =
    let f = ap (λ (x : LaidCode). instruction_in x.framed c.args.entry.now.point) c.code.view_is in
    nothing_told c.args.hart.now _ (nothing_found c.args.code.now.framed c.args.entry.now (sym f ∙ c.in-None.ensures)).1
