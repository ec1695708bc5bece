use Rattle.readback_functions.proofs.Pools.{pools_read_back}
use Rattle.readback_functions.proofs.declaration_laws.pools_read_back.Goals as goal

pub returns : goal.returns
returns c = pools_read_back
