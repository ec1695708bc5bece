use Rattle.fold_proof.proofs.Keeping.{keeps_items}
use Rattle.fold_proof.proofs.debug_laws.folded_keeps_items.Goals as goal

pub returns : goal.returns
returns c = keeps_items
