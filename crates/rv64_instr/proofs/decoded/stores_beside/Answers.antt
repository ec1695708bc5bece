use Rattle.std.proofs.Common.{refl}
use Rattle.rv64_instr.proofs.decoded.stores_beside.Goals as goal

pub returns : goal.returns
returns c = (_, refl, (_, refl))
