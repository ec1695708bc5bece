use Rattle.std.proofs.Common.{arith, subst}
use Rattle.location_ranges.specs.steps.Seen.{IsStill}
use Rattle.location_ranges.proofs.seen.rests.Goals as goal

pub returns-else-stand-from : goal.returns-else-stand-from
returns-else-stand-from c = λ on. record {
  same = c.if-not-same.false;
  reached = c.if-not-stand.false;
  unmarked = omega (arith, c.if-stand-from.false);
  of = c.in-Some.seen;
  is = c.in-Some.is;
  still = subst (IsStill c.in-Some.seen) c.as_slice.ensures.value (c.is_still.ensures on);
}
