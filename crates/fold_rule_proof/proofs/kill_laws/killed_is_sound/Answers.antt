use Rattle.fold_rule_proof.proofs.KillSound.{sound_killed}
use Rattle.fold_rule_proof.proofs.kill_laws.killed_is_sound.Goals as goal

pub returns : goal.returns
returns c = sound_killed
