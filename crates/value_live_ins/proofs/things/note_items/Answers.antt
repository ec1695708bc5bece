use Rattle.std.proofs.Common.{map}
use Rattle.mir_func.specs.declared.item.Item.{Item}
use Rattle.mir_func.specs.Resolve.{resolve}
use Rattle.value_solver.specs.Entry.{thing}
use Rattle.value_live_ins.specs.Gathering.{KnowsPassed}
use Rattle.value_live_ins.proofs.Each.{each_more, each_weaker, each_all}
use Rattle.value_live_ins.proofs.Gathering.{grows_then, passed_grows, passed_next, passed_all}
use Rattle.value_live_ins.proofs.Used.{only_item}
use Rattle.value_live_ins.proofs.things.note_items.Goals as goal

pub loop-i-preserved : goal.loop-i-preserved
loop-i-preserved c =
    let old = c.loop-i.gathered.things in
    let new = c.note_item.new.gathered.things in
    let items = c.args.items.now in
    let item = c.index-items-i.result in
    let before = c.loop-i.invariant in
    let did = c.in_ok-note_item.ensures in
    let P = λ (i : Item). KnowsPassed (map thing old) (resolve c.args.subs.now) i.kind in
    let Q = λ (i : Item). KnowsPassed (map thing new) (resolve c.args.subs.now) i.kind in
    record {
      gathered = did.gathered;
      grows = grows_then c.args.gathered.now.things old new before.grows did.grows;
      above = c.in_ok-add.ensures before.above;
      knows = passed_next old new (resolve c.args.subs.now) items c.loop-i.i item did.grows before.knows c.loop-i-test.true c.index-items-i.is
          (did.knows c.loop-i.i before.above);
      whole = λ on.
          each_more Q c.loop-i.i items item
          (each_weaker P Q c.loop-i.i items (λ i h. passed_grows old new (resolve c.args.subs.now) i.kind did.grows h) (before.whole on))
          c.loop-i-test.true c.index-items-i.is (did.whole on);
      only = only_item c.loop-i.i c.args.gathered.now.things old new (resolve c.args.subs.now) items item c.loop-i-test.true c.index-items-i.is
          before.only did.only;
    }

pub returns-clause-knows : goal.returns-clause-knows
returns-clause-knows c =
    passed_all (map thing c.loop-i.gathered.things) (resolve c.args.subs.now) c.args.items.now c.loop-i.i c.loop-i-test.false c.loop-i.invariant.knows

pub returns-clause-whole : goal.returns-clause-whole
returns-clause-whole c = λ on.
    each_all (λ (i : Item). KnowsPassed (map thing c.loop-i.gathered.things) (resolve c.args.subs.now) i.kind) c.loop-i.i c.args.items.now
    (c.loop-i.invariant.whole on) c.loop-i-test.false
