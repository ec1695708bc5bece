use Rattle.sim_proof.proofs.Headline.{runs_meet_the_headline}
use Rattle.sim_proof.proofs.run_laws.runs_meet_the_headline.Goals as goal

pub returns : goal.returns
returns g c = runs_meet_the_headline (g.A.CallAnswers.gives c.args.answers.now) g.L.LocationLists.gives
