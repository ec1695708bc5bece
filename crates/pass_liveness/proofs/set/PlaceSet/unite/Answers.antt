use Rattle.std.proofs.Common.{◌∙◌, arith}
use Rattle.pass_liveness.proofs.set.PlaceSet.unite.Goals as goal

pub unite-grown-requires-clause-used : goal.unite-grown-requires-clause-used
unite-grown-requires-clause-used c = omega (arith, c.self.invariant.long, c.other.invariant.within)

pub unite-grown-requires-clause-zeros : goal.unite-grown-requires-clause-zeros
unite-grown-requires-clause-zeros c = c.other.invariant.zeros

pub invariant_of-self : goal.invariant_of-self
invariant_of-self c = record {
  long = c.unite-grown.auto.words ∙ c.self.invariant.long;
  within = omega (arith, c.self.invariant.within, c.other.invariant.within);
  zeros = λ k l. c.unite-grown.ensures.left k (omega (arith, l)) ∙ c.self.invariant.zeros k (omega (arith, l));
}
