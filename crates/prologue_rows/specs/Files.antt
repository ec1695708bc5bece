-- The files of the table, numbered from 0.
use Rattle.std.specs.Prelude.{ℕ, List, [], ◌∷◌}
use Rattle.std.specs.List.{position_or_len}
use Rattle.dwarf_info.specs.Entries.{named}
use Rattle.dwarf_line_table.specs.declared.file.SourceFile.{SourceFile}
use Rattle.dwarf_line_table.specs.Files.{is_file}

-- a name, or `unknown` for an empty one
abbrev pub known_name : List ℕ → List ℕ
known_name [] = 0x75 ∷ 0x6e ∷ 0x6b ∷ 0x6e ∷ 0x6f ∷ 0x77 ∷ 0x6e ∷ []
known_name (b ∷ name) = b ∷ name

-- a file as the table has it: its name and directory up to their first zero byte
abbrev pub table_file : SourceFile → SourceFile
table_file f = record { name = known_name (named f.name); dir = named f.dir }

-- the number of a file among files
abbrev pub number_of : List SourceFile → SourceFile → ℕ
number_of files f = position_or_len (is_file f) files
