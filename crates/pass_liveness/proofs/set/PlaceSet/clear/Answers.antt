use Rattle.std.proofs.Common.{◌/◌, arith, rules}
use Rattle.pass_liveness.proofs.Bits.{no_bit}
use Rattle.pass_liveness.proofs.set.PlaceSet.clear.Goals as goal

pub returns : goal.returns
returns c = λ i. no_bit c.zeros-self-inside.result i (c.zeros-self-inside.ensures (i / 64))

pub invariant_of-self : goal.invariant_of-self
invariant_of-self c = record { long = search rules; within = omega arith; zeros = λ k l. c.zeros-self-inside.ensures k }
