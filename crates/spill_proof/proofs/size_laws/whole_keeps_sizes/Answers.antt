use Rattle.spill_proof.proofs.Sizes.{whole_keeps_sizes}
use Rattle.spill_proof.proofs.size_laws.whole_keeps_sizes.Goals as goal

pub returns : goal.returns
returns c = whole_keeps_sizes
