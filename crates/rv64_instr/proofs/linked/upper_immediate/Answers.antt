use Rattle.std.proofs.Common.{arith}
use Rattle.std.proofs.lemmas.Int.{ints}
use Rattle.rv64_instr.proofs.Halves.{upper_is}
use Rattle.rv64_instr.proofs.linked.upper_immediate.Goals as goal

pub returns : goal.returns
returns c = omega (arith, ints, c.from.ensures, upper_is c.args.address)
