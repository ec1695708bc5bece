use Rattle.std.proofs.Common.{sym, subst, rules}
use Rattle.std.proofs.lemmas.List.{take_all}
use Rattle.std.proofs.lemmas.List.Elements.{All-more, All-same}
use Rattle.dwarf_rnglists.specs.Ranges.{Ascend}
use Rattle.test_sections.proofs.range_lists.all_ascend.Goals as goal

pub loop-list-preserved : goal.loop-list-preserved
loop-list-preserved c =
    let has : Ascend c.as_slice.result.now
    = search (rules, c.ascend.ensures, c.if-not-ascend.ensures, c.if-not-ascend.false) in
    All-more Ascend _ _ _ c.loop-list-test.true c.loop-list.invariant (subst Ascend c.list-item.is (subst Ascend c.as_slice.ensures has))

pub returns : goal.returns
returns c = λ _. All-same Ascend _ _ (sym (take_all _ _ c.loop-list-test.false)) c.loop-list.invariant
