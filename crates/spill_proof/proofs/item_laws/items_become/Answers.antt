use Rattle.spill_proof.proofs.Blocks.{items_become}
use Rattle.spill_proof.proofs.item_laws.items_become.Goals as goal

pub returns : goal.returns
returns c = items_become
