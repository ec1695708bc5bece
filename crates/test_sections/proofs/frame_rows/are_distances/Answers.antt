use Rattle.std.proofs.Common.{◌<◌, ◌≤◌, length, get_or, None, arith, sym, rules}
use Rattle.std.proofs.lemmas.List.{take_all}
use Rattle.std.proofs.lemmas.List.Elements.{All-more, All-same}
use Rattle.dwarf_frame.specs.Table.{IsDistance}
use Rattle.test_sections.proofs.frame_rows.are_distances.Goals as goal

pub loop-distance-preserved : goal.loop-distance-preserved
loop-distance-preserved c =
    let inside : c.loop-distance.distance-index < length c.args.saved.now = omega (arith, c.loop-distance.invariant.count, c.loop-distance-test.true) in
    let is : IsDistance (get_or c.args.saved.now c.loop-distance.distance-index None)
    = search (rules, c.is_distance.ensures, c.if-not-is_distance.false) in
    record {
      count = c.loop-distance.invariant.count;
      are = All-more IsDistance c.args.saved.now c.loop-distance.distance-index None inside c.loop-distance.invariant.are is;
    }

pub returns-clause-distances : goal.returns-clause-distances
returns-clause-distances c =
    let past : length c.args.saved.now ≤ c.loop-distance.distance-index = omega (arith, c.loop-distance.invariant.count, c.loop-distance-test.false) in
    λ _. All-same IsDistance _ _ (sym (take_all _ _ past)) c.loop-distance.invariant.are
