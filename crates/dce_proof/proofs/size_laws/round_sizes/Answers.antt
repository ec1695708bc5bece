use Rattle.dce_proof.proofs.Round.{round_sizes}
use Rattle.dce_proof.proofs.size_laws.round_sizes.Goals as goal

pub returns : goal.returns
returns c = round_sizes
