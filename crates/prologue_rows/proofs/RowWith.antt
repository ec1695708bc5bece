-- A row by the number of its file.
use Rattle.std.proofs.Common.{ℕ}
use Rattle.dwarf_line.specs.declared.table.Row.{Row}
use Rattle.prologue_rows.specs.declared.words.SourceWord.{SourceWord}

abbrev pub row_with : ℕ → SourceWord → Row
row_with n w = record { address = w.address; file = n; line = w.line; column = w.column }
