use Rattle.selftest_proof.proofs.Together.{runs_go_together}
use Rattle.selftest_proof.proofs.laws.runs_go_together.Goals as goal

pub returns : goal.returns
returns g c = runs_go_together g.L.LocationLists.gives
