use Rattle.std.proofs.Common.{List, [], get_or, subst}
use Rattle.std.specs.Prelude.{All}
use Rattle.mir_func.specs.declared.block.Block.{Block}
use Rattle.mir_func.specs.declared.item.Item.{Item}
use Rattle.value_live_ins.specs.Gathering.{AppendsOnly, HasPart}
use Rattle.value_live_ins.specs.Used.{IsNamedIn}
use Rattle.value_live_ins.proofs.Each.{each_more, each_weaker}
use Rattle.value_live_ins.proofs.Gathering.{part_kept}
use Rattle.value_live_ins.proofs.Used.{only_block}
use Rattle.value_live_ins.proofs.things.gather_parts.Goals as goal

pub loop-block-preserved : goal.loop-block-preserved
loop-block-preserved c =
    let old = c.loop-block.variables in
    let new = c.add_parts.new.variables in
    let did = c.in_ok-add_parts.ensures in
    let P = λ (b : Block). All (λ (i : Item). HasPart old i.kind) b.items in
    let Q = λ (b : Block). All (λ (i : Item). HasPart new i.kind) b.items in
    record {
      gathered = did.gathered;
      parts = did.parts;
      has = each_more Q c.loop-block.block-index c.args.blocks.now c.block-item.result
          (each_weaker P Q c.loop-block.block-index c.args.blocks.now
          (λ b h k i lt. part_kept old new (get_or b.items k i).kind did.kept (h k i lt)) c.loop-block.invariant.has)
          c.loop-block-test.true c.block-item.is (subst (λ (items : List Item). All (λ (i : Item). HasPart new i.kind) items) c.as_slice.ensures did.has);
      only = λ ends.
          only_block c.loop-block.block-index [] c.loop-block.gathered.things c.add_parts.new.gathered.things ends c.args.blocks.now c.block-item.result
          c.loop-block-test.true c.block-item.is (c.loop-block.invariant.only ends)
          (subst (λ (items : List Item). AppendsOnly (IsNamedIn ends items) c.loop-block.gathered.things c.add_parts.new.gathered.things)
          c.as_slice.ensures (did.only ends));
    }
