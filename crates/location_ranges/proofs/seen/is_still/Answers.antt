use Rattle.std.proofs.Common.{◌≡◌, ℕ, List, length, arith, ap, subst}
use Rattle.std.specs.Prelude.{Bool}
use Rattle.location_ranges.specs.steps.Seen.{Unconcerned}
use Rattle.location_ranges.proofs.seen.is_still.Goals as goal

pub returns : goal.returns
returns c = λ on.
    let seen = c.args.seen.now in
    let places = c.args.places.now in
    let value : length c.as_slice-2.result.now ≡ length seen.places.items = ap (λ (ps : List ℕ). length ps) c.as_slice-2.ensures.value in
    record {
      count = omega (arith, c.if-len-places.false, c.len.ensures, c.as_slice-2.ensures.len, value);
      each = λ i lt.
          subst (λ (old : List ℕ). Unconcerned seen.used.items old places i) c.as_slice-2.ensures.value
          (subst (λ (used : List Bool). Unconcerned used c.as_slice-2.result.now places i) c.as_slice.ensures.value (c.none_concerns.ensures on i lt));
    }
