use Rattle.spill_proof.proofs.Slots.{slots_apart, few_slots}
use Rattle.spill_proof.proofs.whole_laws.slots_fit.Goals as goal

pub returns : goal.returns
returns c = λ reserve live f sound. (slots_apart reserve live f sound.slots_apart, few_slots reserve live f sound.few_slots)
