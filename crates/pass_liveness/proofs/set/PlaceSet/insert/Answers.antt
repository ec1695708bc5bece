use Rattle.std.proofs.Common.{◌∙◌, arith}
use Rattle.pass_liveness.proofs.set.PlaceSet.insert.Goals as goal

pub invariant_of-self : goal.invariant_of-self
invariant_of-self c = record {
  long = c.set_bit.auto.words ∙ c.self.invariant.long;
  within = omega (arith, c.requires, c.self.invariant.within);
  zeros = λ k l. c.set_bit.ensures.others k (λ e. absurd (omega (arith, e, l))) ∙ c.self.invariant.zeros k (omega (arith, l));
}
