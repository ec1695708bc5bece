use Rattle.std.proofs.Common.{◌≡◌, ◌+◌, drop}
use Rattle.std.specs.List.{prefix_len}
use Rattle.prologue_rows.specs.Lines.{is_prologue}
use Rattle.prologue_rows.proofs.lines.prologue_len.Given as goal

abbrev pub invariant-loop-word : goal.invariant-loop-word
invariant-loop-word l = record {
  at : l.count ≡ l.word-index;
  so : l.count + prefix_len is_prologue (drop l.word-index l.words) ≡ prefix_len is_prologue l.words;
}
