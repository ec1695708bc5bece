use Rattle.dce_pass.proofs.Keeps.{rounds_keep}
use Rattle.dce_pass.proofs.rounds_laws.rounds_keep.Goals as goal

pub returns : goal.returns
returns c = rounds_keep
