use Rattle.std.proofs.Common.{subst, sym}
use Rattle.sim_machine.specs.declared.ending.Stop.{Stop}
use Rattle.sim_machine.specs.declared.ending.Stepped.TheVariants.{Stopped}
use Rattle.sim_machine.specs.Running.{StepsOn}
use Rattle.sim_machine.proofs.Stepping.{steps_departure}
use Rattle.sim_machine.proofs.word.departure.Goals as goal

pub returns : goal.returns
returns c = λ h at.
    subst (λ (stop : Stop). StepsOn c.args.code.now (Stopped stop) h h) (sym c.ended_if.ensures)
    (steps_departure c.args.code.now h c.args.entry.now c.args.way c.word_of-word.result c.leaves_by-leaves.result c.requires.stands at c.requires.left
    c.word_of-word.ensures.word c.leaves_by-leaves.ensures)
