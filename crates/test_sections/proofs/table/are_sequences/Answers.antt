use Rattle.std.proofs.Common.{sym, subst, rules}
use Rattle.std.proofs.lemmas.List.{take_all}
use Rattle.std.proofs.lemmas.List.Elements.{All-more, All-same}
use Rattle.dwarf_line.specs.Table.{HasRows, IsSequence}
use Rattle.test_sections.proofs.table.are_sequences.Goals as goal

pub loop-sequence-preserved : goal.loop-sequence-preserved
loop-sequence-preserved c =
    let has : HasRows c.as_slice.result.now c.sequence-item.result.end
    = search (rules, c.has_rows.ensures, c.if-not-has_rows.ensures, c.if-not-has_rows.false) in
    All-more IsSequence _ _ _ c.loop-sequence-test.true c.loop-sequence.invariant
    (subst IsSequence c.sequence-item.is (subst (λ rows. HasRows rows c.sequence-item.result.end) c.as_slice.ensures has))

pub returns : goal.returns
returns c = λ _. All-same IsSequence _ _ (sym (take_all _ _ c.loop-sequence-test.false)) c.loop-sequence.invariant
