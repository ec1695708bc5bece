use Rattle.mir_func.specs.declared.item.Item.{Item}
use Rattle.value_live_ins.specs.Gathering.{HasPart}
use Rattle.value_live_ins.proofs.Each.{each_more, each_weaker}
use Rattle.value_live_ins.proofs.Gathering.{part_kept}
use Rattle.value_live_ins.proofs.Used.{only_item}
use Rattle.value_live_ins.proofs.things.add_parts.Goals as goal

pub loop-item-preserved : goal.loop-item-preserved
loop-item-preserved c =
    let old = c.loop-item.variables in
    let new = c.add_part.new.variables in
    let did = c.in_ok-add_part.ensures in
    let P = λ (i : Item). HasPart old i.kind in
    let Q = λ (i : Item). HasPart new i.kind in
    record {
      gathered = did.gathered;
      parts = did.parts;
      kept = λ v h. did.kept v (c.loop-item.invariant.kept v h);
      has = each_more Q c.loop-item.item-index c.args.items.now c.item-item.result
          (each_weaker P Q c.loop-item.item-index c.args.items.now (λ i h. part_kept old new i.kind did.kept h) c.loop-item.invariant.has)
          c.loop-item-test.true c.item-item.is did.has;
      only = λ ends.
          only_item c.loop-item.item-index c.args.gathered.now.things c.loop-item.gathered.things c.add_part.new.gathered.things ends c.args.items.now
          c.item-item.result c.loop-item-test.true c.item-item.is (c.loop-item.invariant.only ends) (did.only ends);
    }
