use Rattle.std.proofs.Common.{ap, ◌∙◌}
use Rattle.sem_machine.specs.MachineStep.{word_content}
use Rattle.sim_machine.proofs.hart.Hart.stack_word.Goals as goal

pub returns : goal.returns
returns c = λ s h. c.word_at.ensures s h ∙ ap (word_content s) (c.from.ensures ∙ c.number.ensures)
