use Rattle.scan_slots.proofs.Following.{settled_is_sound}
use Rattle.scan_slots.proofs.laws.settled_is_sound.Goals as goal

pub returns : goal.returns
returns c = settled_is_sound
