use Rattle.std.proofs.Common.{drop}
use Rattle.prologue_rows.specs.Files.{table_file}
use Rattle.prologue_rows.proofs.Numbered.{Numbered}
use Rattle.prologue_rows.proofs.table.push_numbers.Given as goal

abbrev pub invariant-loop-file : goal.invariant-loop-file
invariant-loop-file l = Numbered table_file (λ n d. n) l.initial.files l.files l.declared (drop l.file-index l.declared) l.initial.numbers l.numbers
