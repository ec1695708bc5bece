use Rattle.dce_proof.proofs.Whole.{round_keeps}
use Rattle.dce_proof.proofs.debug_laws.round_keeps_items.Goals as goal

pub returns : goal.returns
returns c = round_keeps
