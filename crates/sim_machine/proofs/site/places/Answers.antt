use Rattle.std.proofs.Common.{ap, ◌∙◌}
use Rattle.emit_code.specs.Laid.{LaidCode}
use Rattle.sim_machine.specs.Shown.{word_places}
use Rattle.sim_machine.proofs.site.places.Goals as goal

pub returns : goal.returns
returns c = c.in_ok-places.ensures ∙ ap (word_places 0) (c.as_slice.ensures ∙ ap (λ (x : LaidCode). x.entries) c.code.view_is)
