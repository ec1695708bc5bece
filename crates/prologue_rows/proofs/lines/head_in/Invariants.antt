use Rattle.std.proofs.Common.{◌≡◌, ◌+◌, drop}
use Rattle.std.specs.List.{prefix_len}
use Rattle.prologue_rows.specs.Lines.{is_head}
use Rattle.prologue_rows.proofs.lines.head_in.Given as goal

abbrev pub invariant-loop-word : goal.invariant-loop-word
invariant-loop-word l = record {
  at : l.count ≡ l.word-index;
  so : l.count + prefix_len (is_head l.block) (drop l.word-index l.body) ≡ prefix_len (is_head l.block) l.body;
}
