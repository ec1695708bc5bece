use Rattle.std.proofs.Common.{sym, subst, rules}
use Rattle.std.proofs.lemmas.List.{take_all}
use Rattle.std.proofs.lemmas.List.Elements.{All-more, All-same}
use Rattle.linkable_command.specs.entry_placement.dwarf_entry.Entries.{ItemRefersBelow}
use Rattle.test_sections.proofs.entry_tree.items_refer.Goals as goal

pub loop-item-preserved : goal.loop-item-preserved
loop-item-preserved c =
    let has : ItemRefersBelow c.args.count c.item-item.result
    = search (rules, c.item_refers.ensures, c.if-not-item_refers.ensures, c.if-not-item_refers.false) in
    All-more (ItemRefersBelow c.args.count) _ _ _ c.loop-item-test.true c.loop-item.invariant (subst (ItemRefersBelow c.args.count) c.item-item.is has)

pub returns : goal.returns
returns c = λ _. All-same (ItemRefersBelow c.args.count) _ _ (sym (take_all _ _ c.loop-item-test.false)) c.loop-item.invariant
