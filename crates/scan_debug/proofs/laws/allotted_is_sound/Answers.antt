use Rattle.scan_debug.proofs.Sound.{allotted_is_sound}
use Rattle.scan_debug.proofs.laws.allotted_is_sound.Goals as goal

pub returns : goal.returns
returns c = allotted_is_sound
