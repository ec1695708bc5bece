use Rattle.theorem_invariance.proofs.RunAlone.{runs_alone}
use Rattle.theorem_invariance.proofs.run_laws.runs_write_code_alone.Goals as goal

pub returns : goal.returns
returns c = runs_alone
