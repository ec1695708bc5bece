use Rattle.std.proofs.Common.{ℕ, Bool}
use Rattle.mir_func.specs.declared.item.Item.{Item}
use Rattle.pass_trait.specs.Causes.{names}
use Rattle.scan_allot.proofs.Inserted.{inserts_begin, inserts_go_on, inserts_end}
use Rattle.scan_allot.proofs.named.insert_items.Goals as goal

abbrev test : ℕ → Item → Bool
test r i = names r i.kind

pub loop-item-init : goal.loop-item-init
loop-item-init c = inserts_begin test c.args.items.now c.args.named.now

pub loop-item-preserved : goal.loop-item-preserved
loop-item-preserved c =
    inserts_go_on test c.args.items.now c.args.named.now c.loop-item.named c.loop-item.invariant c.item-item.result c.loop-item-test.true c.item-item.is
    c.insert_kind.new.named c.insert_kind.ensures

pub returns : goal.returns
returns c = inserts_end test c.args.items.now c.args.named.now c.loop-item.named c.loop-item.invariant c.loop-item-test.false
