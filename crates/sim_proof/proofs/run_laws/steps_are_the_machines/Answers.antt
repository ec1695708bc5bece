use Rattle.sim_proof.proofs.Runs.{steps_are_the_machines}
use Rattle.sim_proof.proofs.run_laws.steps_are_the_machines.Goals as goal

pub returns : goal.returns
returns g c = steps_are_the_machines (g.A.CallAnswers.gives c.args.answers.now)
