use Rattle.std.proofs.Common.{List, get_or, map, subst}
use Rattle.std.specs.Prelude.{All}
use Rattle.mir_func.specs.declared.block.Block.{Block}
use Rattle.mir_func.specs.declared.item.Item.{Item}
use Rattle.mir_func.specs.Resolve.{resolve}
use Rattle.value_live_ins.specs.Gathering.{AppendsOnly, KnowsPassed, KnowsPassedItems}
use Rattle.value_live_ins.specs.Used.{IsNamedIn}
use Rattle.value_live_ins.proofs.Each.{each_more, each_weaker, each_all}
use Rattle.value_solver.specs.Entry.{thing}
use Rattle.value_live_ins.proofs.Gathering.{grows_then, items_grow, passed_grows}
use Rattle.value_live_ins.proofs.Used.{only_block}
use Rattle.value_live_ins.proofs.things.note_blocks.Goals as goal

pub loop-block-preserved : goal.loop-block-preserved
loop-block-preserved c =
    let old = c.loop-block.gathered.things in
    let new = c.note_items.new.gathered.things in
    let did = c.in_ok-note_items.ensures in
    let P = λ (b : Block). KnowsPassedItems (map thing old) (resolve c.args.subs.now) b.items in
    let Q = λ (b : Block). KnowsPassedItems (map thing new) (resolve c.args.subs.now) b.items in
    let R = λ (b : Block). All (λ (i : Item). KnowsPassed (map thing old) (resolve c.args.subs.now) i.kind) b.items in
    let S = λ (b : Block). All (λ (i : Item). KnowsPassed (map thing new) (resolve c.args.subs.now) i.kind) b.items in
    record {
      gathered = did.gathered;
      grows = grows_then c.args.gathered.now.things old new c.loop-block.invariant.grows did.grows;
      knows = each_more Q c.loop-block.block-index c.args.blocks.now c.block-item.result
          (each_weaker P Q c.loop-block.block-index c.args.blocks.now
          (λ b h. items_grow old new (resolve c.args.subs.now) b.items did.grows h) c.loop-block.invariant.knows)
          c.loop-block-test.true c.block-item.is
          (subst (λ (items : List Item). KnowsPassedItems (map thing new) (resolve c.args.subs.now) items) c.as_slice.ensures did.knows);
      whole = λ on.
          each_more S c.loop-block.block-index c.args.blocks.now c.block-item.result
          (each_weaker R S c.loop-block.block-index c.args.blocks.now
          (λ b h k i lt. passed_grows old new (resolve c.args.subs.now) (get_or b.items k i).kind did.grows (h k i lt)) (c.loop-block.invariant.whole on))
          c.loop-block-test.true c.block-item.is
          (subst (λ (items : List Item). All (λ (i : Item). KnowsPassed (map thing new) (resolve c.args.subs.now) i.kind) items) c.as_slice.ensures
          (did.whole on));
      only = only_block c.loop-block.block-index c.args.gathered.now.things old new (resolve c.args.subs.now) c.args.blocks.now c.block-item.result
          c.loop-block-test.true c.block-item.is c.loop-block.invariant.only
          (subst (λ (items : List Item). AppendsOnly (IsNamedIn (resolve c.args.subs.now) items) old new) c.as_slice.ensures did.only);
    }

pub returns-clause-knows : goal.returns-clause-knows
returns-clause-knows c =
    each_all (λ (b : Block). KnowsPassedItems (map thing c.loop-block.gathered.things) (resolve c.args.subs.now) b.items)
    c.loop-block.block-index c.args.blocks.now c.loop-block.invariant.knows c.loop-block-test.false

pub returns-clause-whole : goal.returns-clause-whole
returns-clause-whole c = λ on.
    each_all (λ (b : Block). All (λ (i : Item). KnowsPassed (map thing c.loop-block.gathered.things) (resolve c.args.subs.now) i.kind) b.items)
    c.loop-block.block-index c.args.blocks.now (c.loop-block.invariant.whole on) c.loop-block-test.false
