use Rattle.spill_proof.proofs.Alive.{alive_bare}
use Rattle.spill_proof.proofs.live_in_laws.alive_bare.Goals as goal

pub returns : goal.returns
returns c = alive_bare
