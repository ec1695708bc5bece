use Rattle.spill_debug.proofs.AskedSound.{asked_is_sound}
use Rattle.spill_debug.proofs.laws.asked_is_sound.Goals as goal

pub returns : goal.returns
returns c = asked_is_sound
