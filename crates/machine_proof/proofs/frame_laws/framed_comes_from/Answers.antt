use Rattle.machine_proof.proofs.Quiet.{framed_comes_from}
use Rattle.machine_proof.proofs.frame_laws.framed_comes_from.Goals as goal

pub returns : goal.returns
returns c = framed_comes_from
