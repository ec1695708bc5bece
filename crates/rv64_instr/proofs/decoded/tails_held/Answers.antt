use Rattle.std.proofs.Common.{refl}
use Rattle.rv64_instr.proofs.decoded.tails_held.Goals as goal

pub returns : goal.returns
returns c = λ values. (_, refl, (_, refl, refl))
