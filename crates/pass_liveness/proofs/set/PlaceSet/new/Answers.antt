use Rattle.std.proofs.Common.{◌/◌, arith, rules}
use Rattle.pass_liveness.proofs.Bits.{no_bit}
use Rattle.pass_liveness.proofs.set.PlaceSet.new.Goals as goal

pub invariant_of-result : goal.invariant_of-result
invariant_of-result c = record { long = search rules; within = omega arith; zeros = λ k l. c.zeros.ensures k }

pub returns : goal.returns
returns c = λ i. no_bit c.zeros.result i (c.zeros.ensures (i / 64))
