use Rattle.std.proofs.Common.{refl}
use Rattle.rv64_instr.proofs.decoded.calls_held.Goals as goal

pub returns : goal.returns
returns c = (_, refl, refl)
