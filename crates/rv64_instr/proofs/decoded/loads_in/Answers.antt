use Rattle.std.proofs.Common.{refl}
use Rattle.rv64_instr.proofs.decoded.loads_in.Goals as goal

pub returns : goal.returns
returns c = (_, refl, refl)
