use Rattle.std.proofs.Common.{◌≤◌, ◌<◌, ◌+◌, length, ◌∙◌, arith}
use Rattle.copyprop_block.specs.Copied.{at_block}
use Rattle.copyprop_block.proofs.Lists.{read_behind}
use Rattle.copyprop_block.proofs.Fronts.{step_stands, some_at}
use Rattle.copyprop_block.proofs.copies.copy_items.Goals as goal

pub loop-at-preserved : goal.loop-at-preserved
loop-at-preserved c =
    let xs = c.args.items.now.items in
    let items = c.loop-at.items.items in
    let at = c.loop-at.at in
    let h = c.loop-at.invariant.so_far in
    let low = c.loop-at.invariant.counted in
    let size = h.size in
    let lt : at < length xs = (let t = c.loop-at-test.true in let l = c.len-at-end.ensures in omega (arith, t, l)) in
    let here : at < length items = omega (arith, lt, size) in
    let w = some_at items at here in
    let e = c.in_ok-kept.ensures in
    let one : c.next_item.new.fresh ≤ c.loop-at.fresh + 1 = e.counted in
    record {
      so_far = step_stands (at_block c.args.subs.now c.args.fresh.now) xs items c.next_item.new.items.items c.loop-at.kept at c.in_ok-kept.kept w.0
          c.loop-at.roots.items c.next_item.new.roots.items c.loop-at.subs c.next_item.new.subs c.loop-at.fresh c.next_item.new.fresh lt
          (w.1 ∙ read_behind xs items at w.0 h.behind) h (e.stands w.0 w.1);
      found = e.lookup;
      counted = omega (arith, low, one);
    }

pub next_item-requires-clause-carried : goal.next_item-requires-clause-carried
next_item-requires-clause-carried c =
    let xs = c.args.items.now.items in
    let items = c.loop-at.items.items in
    let at = c.loop-at.at in
    let low = c.loop-at.invariant.counted in
    let most = c.requires.fresh in
    let lt : at < length xs = (let t = c.loop-at-test.true in let l = c.len-at-end.ensures in omega (arith, t, l)) in
    record { left = omega (arith, low, most, lt); found = c.loop-at.invariant.found }
