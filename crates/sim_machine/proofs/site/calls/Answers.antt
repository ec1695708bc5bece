use Rattle.std.proofs.Common.{sym, ap, ◌∙◌}
use Rattle.emit_code.specs.Laid.{LaidCode}
use Rattle.std.specs.Prelude.{is_some}
use Rattle.sim_machine.specs.steps.Sites.{instruction_in}
use Rattle.sim_machine.proofs.Sites.{calls_found, nothing_found}
use Rattle.sim_machine.proofs.site.calls.Goals as goal

pub returns-in-Some : goal.returns-in-Some
returns-in-Some c =
    let f = ap (λ (x : LaidCode). instruction_in x.framed c.args.entry.now.point) c.code.view_is in
    c.is_call.ensures ∙ calls_found c.args.code.now.framed c.args.entry.now c.in-Some.i.now (sym f ∙ c.in-Some.ensures)

pub returns-in-None : goal.returns-in-None
returns-in-None c =
    let f = ap (λ (x : LaidCode). instruction_in x.framed c.args.entry.now.point) c.code.view_is in
    sym (ap is_some (nothing_found c.args.code.now.framed c.args.entry.now (sym f ∙ c.in-None.ensures)).0)
