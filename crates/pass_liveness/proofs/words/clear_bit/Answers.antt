use Rattle.std.proofs.Common.{◌/◌, ◌<◌, length, arith}
use Rattle.pass_liveness.proofs.Bits.{bit_cleared, zero_stays}
use Rattle.pass_liveness.proofs.words.clear_bit.Goals as goal

pub returns-clause-bits : goal.returns-clause-bits
returns-clause-bits c = let l : c.args.bit / 64 < length c.args.words.now = omega (arith, c.requires) in bit_cleared c.args.words.now c.args.bit l

pub returns-clause-zeros : goal.returns-clause-zeros
returns-clause-zeros c = let l : c.args.bit / 64 < length c.args.words.now = omega (arith, c.requires) in
    λ k z. zero_stays c.args.words.now (c.args.bit / 64) _ k l z
