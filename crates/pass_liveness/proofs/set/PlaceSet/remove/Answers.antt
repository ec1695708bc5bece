use Rattle.std.proofs.Common.{◌∙◌}
use Rattle.pass_liveness.proofs.set.PlaceSet.remove.Goals as goal

pub invariant_of-self : goal.invariant_of-self
invariant_of-self c = record {
  long = c.clear_bit.auto.words ∙ c.self.invariant.long;
  within = c.self.invariant.within;
  zeros = λ k l. c.clear_bit.ensures.zeros k (c.self.invariant.zeros k l);
}
