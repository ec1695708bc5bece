use Rattle.spill_proof.proofs.Joined.{joined_is_sound}
use Rattle.spill_proof.proofs.joined_laws.joined_is_sound.Goals as goal

pub returns : goal.returns
returns c = joined_is_sound
