use Rattle.readback_functions.proofs.PoolsKnown.{pools_are_known}
use Rattle.readback_functions.proofs.declaration_laws.pools_are_known.Goals as goal

pub returns : goal.returns
returns c = pools_are_known
