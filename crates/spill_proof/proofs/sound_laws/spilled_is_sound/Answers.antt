use Rattle.spill_proof.proofs.Sound.{spilled_is_sound}
use Rattle.spill_proof.proofs.sound_laws.spilled_is_sound.Goals as goal

pub returns : goal.returns
returns c = spilled_is_sound
