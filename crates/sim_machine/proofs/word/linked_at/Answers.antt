use Rattle.std.proofs.Common.{sym, ap, ◌∙◌}
use Rattle.std.specs.Prelude.{drop}
use Rattle.rv64_instr.specs.Linked.{addresses_in}
use Rattle.rv64_instr.specs.Row.{Row}
use Rattle.rv64_word.specs.Linked.{linked_word}
use Rattle.mir_func.specs.Graph.{fetch_in}
use Rattle.emit_code.specs.Laid.{LaidCode}
use Rattle.sim_machine.specs.steps.Sites.{instruction_in}
use Rattle.sim_machine.proofs.Linking.{row_found, unlinked_word}
use Rattle.sim_machine.proofs.word.linked_at.Goals as goal

pub returns-in-Some : goal.returns-in-Some
returns-in-Some c =
    let f = ap (λ (x : LaidCode). instruction_in x.framed c.args.entry.now.point) c.code.view_is in
    let p = c.args.entry.now.point in
    let is = row_found (fetch_in (drop p.block c.args.code.now.framed.blocks) p.item) c.in-Some.i.now (sym f ∙ c.in-Some.ensures) in
    c.linked_word.ensures ∙ ap (λ (r : Row). linked_word (addresses_in c.args.symbols.now) r c.args.word) is

pub returns-in-None : goal.returns-in-None
returns-in-None c =
    let f = ap (λ (x : LaidCode). instruction_in x.framed c.args.entry.now.point) c.code.view_is in
    let p = c.args.entry.now.point in
    unlinked_word (addresses_in c.args.symbols.now) (fetch_in (drop p.block c.args.code.now.framed.blocks) p.item) c.args.word (sym f ∙ c.in-None.ensures)
