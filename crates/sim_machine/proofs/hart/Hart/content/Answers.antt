use Rattle.std.proofs.Common.{sym, ap, ◌∙◌}
use Rattle.rv64_instr.specs.declared.place.Place.{Place}
use Rattle.sem_machine.specs.Machine.{place_content}
use Rattle.sim_machine.proofs.hart.Hart.content.Goals as goal

pub returns-in-Slot : goal.returns-in-Slot
returns-in-Slot c = λ s h. c.stack_word.ensures s h ∙ ap (λ (p : Place). place_content p s) (sym c.in-Slot.is)
