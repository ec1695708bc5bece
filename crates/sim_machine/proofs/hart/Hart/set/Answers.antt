use Rattle.sem_machine.specs.MachineStep.{set_register}
use Rattle.sim_machine.proofs.hart.Hart.set.Goals as goal

pub returns-clause-stands : goal.returns-clause-stands
returns-clause-stands c = λ s h. c.pass.ensures.stands (set_register c.args.rd c.args.value s) (c.write.ensures.stands s h)
