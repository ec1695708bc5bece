use Rattle.machine_proof.proofs.Turns.{framed_has_plain_turns}
use Rattle.machine_proof.proofs.frame_laws.framed_has_plain_turns.Goals as goal

pub returns : goal.returns
returns c = framed_has_plain_turns
