use Rattle.std.proofs.Common.{◌/◌, ◌<◌, length, arith}
use Rattle.std.proofs.lemmas.List.{get_or-set_other}
use Rattle.pass_liveness.proofs.Bits.{bit_set}
use Rattle.pass_liveness.proofs.words.set_bit.Goals as goal

pub returns-clause-bits : goal.returns-clause-bits
returns-clause-bits c = let l : c.args.bit / 64 < length c.args.words.now = omega (arith, c.requires) in bit_set c.args.words.now c.args.bit l

pub returns-clause-others : goal.returns-clause-others
returns-clause-others c = λ k other. get_or-set_other c.args.words.now (c.args.bit / 64) k _ 0 other
