use Rattle.sim_proof.proofs.Runs.{runs_are_the_machines}
use Rattle.sim_proof.proofs.run_laws.runs_are_the_machines.Goals as goal

pub returns : goal.returns
returns g c = runs_are_the_machines (g.A.CallAnswers.gives c.args.answers.now)
