use Rattle.fold_proof.proofs.Growing.{keeps_sizes}
use Rattle.fold_proof.proofs.size_laws.folded_keeps_sizes.Goals as goal

pub returns : goal.returns
returns c = keeps_sizes
