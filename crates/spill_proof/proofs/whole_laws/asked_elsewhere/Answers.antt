use Rattle.spill_select.specs.spill_rule.Choice.{spilling_of}
use Rattle.spill_proof.proofs.Chosen.{no_scratch}
use Rattle.spill_proof.proofs.Elsewhere.{asks_elsewhere}
use Rattle.spill_proof.proofs.whole_laws.asked_elsewhere.Goals as goal

pub returns : goal.returns
returns c = λ reserve live k f real. asks_elsewhere (spilling_of reserve live f) (no_scratch reserve live f real) k f.blocks
