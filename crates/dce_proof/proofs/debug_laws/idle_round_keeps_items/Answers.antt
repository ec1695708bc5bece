use Rattle.dce_proof.proofs.Idle.{idle_keeps}
use Rattle.dce_proof.proofs.debug_laws.idle_round_keeps_items.Goals as goal

pub returns : goal.returns
returns c = idle_keeps
