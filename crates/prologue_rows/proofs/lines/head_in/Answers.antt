use Rattle.std.proofs.Common.{arith, sym, ◌∙◌}
use Rattle.std.proofs.lemmas.List.{drop_all}
use Rattle.std.proofs.lemmas.List.Sums.{prefix_len-le-length}
use Rattle.dwarf_line_table.proofs.Split.{split_at}
use Rattle.prologue_rows.specs.Lines.{is_head}
use Rattle.prologue_rows.proofs.Steps.{front_grows, front_ends, front_all}
use Rattle.prologue_rows.proofs.lines.head_in.Goals as goal

pub returns-then-not-is_head : goal.returns-then-not-is_head
returns-then-not-is_head c =
    let split = split_at c.args.body.now c.loop-word.word-index c.word-item.result c.loop-word-test.true c.word-item.is in
    record {
      value = front_ends (is_head c.args.block) _ _ _ _ c.word-item.result split (sym c.is_head.ensures ∙ c.if-not-is_head.true) c.loop-word.invariant.so;
      within = omega (arith, c.loop-word.invariant.at, c.loop-word-test.true);
    }

pub loop-word-preserved : goal.loop-word-preserved
loop-word-preserved c =
    let split = split_at c.args.body.now c.loop-word.word-index c.word-item.result c.loop-word-test.true c.word-item.is in
    record {
      at = omega (arith, c.loop-word.invariant.at);
      so = front_grows (is_head c.args.block) _ _ _ _ c.word-item.result split (sym c.is_head.ensures ∙ c.if-not-is_head.false) c.loop-word.invariant.so;
    }

pub returns : goal.returns
returns c =
    let value = front_all (is_head c.args.block) _ _ _ (drop_all c.loop-word.word-index c.args.body.now c.loop-word-test.false) c.loop-word.invariant.so in
    record { value = value; within = omega (arith, value, prefix_len-le-length (is_head c.args.block) c.args.body.now) }
