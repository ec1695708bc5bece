use Rattle.std.proofs.Common.{arith, sym, ◌∙◌}
use Rattle.std.proofs.lemmas.List.{drop_all}
use Rattle.std.proofs.lemmas.List.Sums.{prefix_len-le-length}
use Rattle.dwarf_line_table.proofs.Split.{split_at}
use Rattle.prologue_rows.specs.Lines.{is_prologue}
use Rattle.prologue_rows.proofs.Steps.{front_grows, front_ends, front_all}
use Rattle.prologue_rows.proofs.lines.prologue_len.Goals as goal

pub returns-then-not-is_prologue : goal.returns-then-not-is_prologue
returns-then-not-is_prologue c =
    let split = split_at c.args.words.now c.loop-word.word-index c.word-item.result c.loop-word-test.true c.word-item.is in
    record {
      value = front_ends is_prologue _ _ _ _ c.word-item.result split (sym c.is_prologue.ensures ∙ c.if-not-is_prologue.true) c.loop-word.invariant.so;
      within = omega (arith, c.loop-word.invariant.at, c.loop-word-test.true);
    }

pub loop-word-preserved : goal.loop-word-preserved
loop-word-preserved c =
    let split = split_at c.args.words.now c.loop-word.word-index c.word-item.result c.loop-word-test.true c.word-item.is in
    record {
      at = omega (arith, c.loop-word.invariant.at);
      so = front_grows is_prologue _ _ _ _ c.word-item.result split (sym c.is_prologue.ensures ∙ c.if-not-is_prologue.false) c.loop-word.invariant.so;
    }

pub returns : goal.returns
returns c =
    let value = front_all is_prologue _ _ _ (drop_all c.loop-word.word-index c.args.words.now c.loop-word-test.false) c.loop-word.invariant.so in
    record { value = value; within = omega (arith, value, prefix_len-le-length is_prologue c.args.words.now) }
