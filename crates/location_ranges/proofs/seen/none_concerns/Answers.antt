use Rattle.std.proofs.Common.{ℕ, arith, sym, subst, inl, inr}
use Rattle.std.proofs.lemmas.Bool.Decides.{eqb_tells}
use Rattle.location_ranges.specs.steps.Seen.{Unconcerned}
use Rattle.location_ranges.proofs.seen.none_concerns.Goals as goal

pub loop-i-preserved : goal.loop-i-preserved
loop-i-preserved c = λ k lt. elim (eqb_tells k c.loop-i.i) [
  | inl h ↦
      subst (Unconcerned c.args.used.now c.args.old.now c.args.new.now) (sym h.1) (c.concerns_at.ensures c.if-concerns_at.false)
  | inr h ↦ c.loop-i.invariant k (let ne = h.1 in omega (arith, lt, ne))
]

pub returns : goal.returns
returns c = λ on i lt. c.loop-i.invariant i (let stop = c.loop-i-test.false in omega (arith, lt, stop))
