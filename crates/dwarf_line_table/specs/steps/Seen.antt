-- The source file that a key of a name and a directory represents.
use Rattle.std.specs.Prelude.{ℕ, Vec}
use Rattle.dwarf_line_table.specs.declared.file.SourceFile.{SourceFile}

abbrev pub seen : {Z : Type 0} → Vec ℕ Z × Vec ℕ Z → SourceFile
seen k = record { name = k.0.items; dir = k.1.items }
