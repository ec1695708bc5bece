use Rattle.std.proofs.Common.{ap}
use Rattle.std.proofs.lemmas.List.{drop_all}
use Rattle.dwarf_line_table.proofs.Split.{split_at}
use Rattle.prologue_rows.specs.Words.{at_line, word_of}
use Rattle.prologue_rows.proofs.Steps.{map_next, map_done}
use Rattle.prologue_rows.proofs.words.words.Goals as goal

pub loop-entry-preserved : goal.loop-entry-preserved
loop-entry-preserved c = λ blocks are.
    map_next (word_of c.args.meta.now blocks) _ _ _ _ _ _ _
    (split_at c.args.entries.now c.loop-entry.entry-index c.entry-item.result c.loop-entry-test.true c.entry-item.is)
    (ap (at_line c.entry-item.result.address c.entry-item.result.point.block) (c.line_at-line.ensures blocks are)) c.in_ok-push.ensures.ok (c.loop-entry.invariant blocks are)

pub returns : goal.returns
returns c = λ blocks are.
    map_done (word_of c.args.meta.now blocks) _ _ _ (drop_all c.loop-entry.entry-index c.args.entries.now c.loop-entry-test.false)
    (c.loop-entry.invariant blocks are)
