use Rattle.std.proofs.Common.{sym, ap, ◌∙◌}
use Rattle.emit_code.specs.Laid.{LaidCode}
use Rattle.rv64_instr.specs.Row.{row_of}
use Rattle.sim_machine.specs.steps.Sites.{instruction_in}
use Rattle.sim_machine.proofs.Sites.{transfer_found, nothing_found}
use Rattle.sim_machine.proofs.site.transfer_at.Goals as goal

pub returns-in-Some : goal.returns-in-Some
returns-in-Some c =
    let f = ap (λ (x : LaidCode). instruction_in x.framed c.args.entry.now.point) c.code.view_is in
    transfer_found c.args.code.now.framed c.args.entry.now c.in-Some.i.now c.transfer_of.result (sym f ∙ c.in-Some.ensures)
    (c.transfer_of.ensures (row_of c.in-Some.i.now) c.decoded.ensures.row)

pub returns-in-None : goal.returns-in-None
returns-in-None c =
    let f = ap (λ (x : LaidCode). instruction_in x.framed c.args.entry.now.point) c.code.view_is in
    nothing_found c.args.code.now.framed c.args.entry.now (sym f ∙ c.in-None.ensures)
