use Rattle.std.proofs.Common.{sym, subst}
use Rattle.std.proofs.lemmas.List.{take_all}
use Rattle.std.proofs.lemmas.List.Elements.{All-more, All-same}
use Rattle.mir_type_facts.specs.Typed.{IsTypedItem}
use Rattle.mir_type_facts.proofs.typed.items_are_typed.Goals as goal

pub loop-item-preserved : goal.loop-item-preserved
loop-item-preserved c =
    All-more IsTypedItem c.args.items.now c.loop-item.item-index c.item-item.result c.loop-item-test.true c.loop-item.invariant
    (subst IsTypedItem c.item-item.is c.item_is_typed.ensures)

pub returns : goal.returns
returns c =
    All-same IsTypedItem c.args.items.now _ (sym (take_all c.loop-item.item-index c.args.items.now c.loop-item-test.false)) c.loop-item.invariant
