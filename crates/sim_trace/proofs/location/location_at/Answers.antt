use Rattle.std.proofs.Common.{◌+◌, ◌-◌, ◌/◌, ◌<◌, length, arith}
use Rattle.sim_trace.proofs.Searching.{nowhere, step_below, step_above, found_at}
use Rattle.sim_trace.proofs.location.location_at.Goals as goal

pub halves-preserved-then-range-address : goal.halves-preserved-then-range-address
halves-preserved-then-range-address c =
    let test = c.halves-test.true in
    let top = c.halves.invariant.top in
    let l : c.halves.low + (c.halves.high - c.halves.low) / 2 < length c.args.ranges.now = omega (arith, test, top) in
    record {
      within = omega (arith, test);
      top = top;
      below = step_below c.args.ranges.now (c.halves.low + (c.halves.high - c.halves.low) / 2) c.index-ranges-middle.result c.args.address c.requires l
          c.index-ranges-middle.is c.if-range-address.true;
      above = c.halves.invariant.above;
    }

pub halves-preserved : goal.halves-preserved
halves-preserved c =
    let test = c.halves-test.true in
    let top = c.halves.invariant.top in
    let l : c.halves.low + (c.halves.high - c.halves.low) / 2 < length c.args.ranges.now = omega (arith, test, top) in
    record {
      within = omega (arith, test);
      top = omega (arith, test, top);
      below = c.halves.invariant.below;
      above = step_above c.args.ranges.now (c.halves.low + (c.halves.high - c.halves.low) / 2) c.index-ranges-middle.result c.args.address c.requires l
          c.index-ranges-middle.is c.if-address-range.true;
    }

pub returns-else-address-range : goal.returns-else-address-range
returns-else-address-range c =
    let test = c.halves-test.true in
    let top = c.halves.invariant.top in
    let l : c.halves.low + (c.halves.high - c.halves.low) / 2 < length c.args.ranges.now = omega (arith, test, top) in
    found_at c.args.ranges.now (c.halves.low + (c.halves.high - c.halves.low) / 2) c.index-ranges-middle.result c.args.address c.requires l
    c.index-ranges-middle.is c.if-address-range.false c.if-range-address.false

pub returns : goal.returns
returns c =
    let test = c.halves-test.false in
    nowhere c.args.ranges.now c.args.address c.halves.low c.halves.invariant.below (λ k d l g. c.halves.invariant.above k d l (omega (arith, g, test)))
