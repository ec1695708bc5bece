use Rattle.std.proofs.Common.{sym, subst, rules}
use Rattle.std.proofs.lemmas.List.{take_all}
use Rattle.std.proofs.lemmas.List.Elements.{All-more, All-same}
use Rattle.dwarf_frame.specs.Table.{IsDescription}
use Rattle.test_sections.proofs.frame_rows.are_descriptions.Goals as goal

pub loop-function-preserved : goal.loop-function-preserved
loop-function-preserved c =
    let is : IsDescription c.function-item.result
    = search (rules, c.is_description.ensures, c.if-not-is_description.false) in
    All-more IsDescription _ _ _ c.loop-function-test.true c.loop-function.invariant (subst IsDescription c.function-item.is is)

pub returns : goal.returns
returns c = λ _. All-same IsDescription _ _ (sym (take_all _ _ c.loop-function-test.false)) c.loop-function.invariant
