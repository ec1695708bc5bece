use Rattle.spill_proof.proofs.Causes.{new_slots_are_new}
use Rattle.spill_proof.proofs.cause_laws.new_slots_are_new.Goals as goal

pub returns : goal.returns
returns c = new_slots_are_new
