use Rattle.std.proofs.Common.{List, Some, sym, ap, ◌∙◌, subst}
use Rattle.emit_code.specs.declared.code.EncodedInstruction.{EncodedInstruction}
use Rattle.emit_code.specs.Laid.{LaidCode, IsCode}
use Rattle.sim_machine.specs.Shown.{entry_at}
use Rattle.sim_machine.proofs.Sites.{begins_within}
use Rattle.sim_machine.proofs.site.find.Goals as goal

pub returns-in-Some-clause-within : goal.returns-in-Some-clause-within
returns-in-Some-clause-within c =
    begins_within c.args.code.now (Some c.in-Some.entry) c.args.address (subst IsCode c.code.view_is c.code.invariant) (sym c.in-Some.ensures.found)

pub returns-in-None-clause-within : goal.returns-in-None-clause-within
returns-in-None-clause-within c =
    begins_within c.args.code.now c.search.result c.args.address (subst IsCode c.code.view_is c.code.invariant)
    (c.search.ensures.found ∙ ap (λ (es : List EncodedInstruction). entry_at es c.args.address)
    (c.as_slice-entries.ensures ∙ ap (λ (x : LaidCode). x.entries) c.code.view_is))
