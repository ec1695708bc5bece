use Rattle.spill_proof.proofs.Alive.{alive_alike}
use Rattle.spill_proof.proofs.live_in_laws.alive_alike.Goals as goal

pub returns : goal.returns
returns c = alive_alike
