use Rattle.std.proofs.Common.{sym, subst, rules}
use Rattle.std.proofs.lemmas.List.{take_all}
use Rattle.std.proofs.lemmas.List.Elements.{All-more, All-same}
use Rattle.linkable_command.specs.entry_placement.dwarf_entry.Entries.{RefersBelow, AttributeRefersBelow}
use Rattle.test_sections.proofs.entry_tree.attributes_refer.Goals as goal

pub loop-attribute-preserved : goal.loop-attribute-preserved
loop-attribute-preserved c =
    let has : RefersBelow c.args.count c.attribute-item.result.value
    = search (rules, c.refers_below.ensures, c.if-not-refers_below.ensures, c.if-not-refers_below.false) in
    All-more (AttributeRefersBelow c.args.count) _ _ _ c.loop-attribute-test.true c.loop-attribute.invariant
    (subst (AttributeRefersBelow c.args.count) c.attribute-item.is has)

pub returns : goal.returns
returns c = λ _. All-same (AttributeRefersBelow c.args.count) _ _ (sym (take_all _ _ c.loop-attribute-test.false)) c.loop-attribute.invariant
