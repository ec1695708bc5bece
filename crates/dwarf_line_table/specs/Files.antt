-- The source files of a program, and their order in its line number table.
use Rattle.std.specs.Prelude.{ℕ, ◌+◌, Bool, ◌&&◌, nat_eq, if◌then◌else◌, List, [], ◌∷◌, ◌++◌, map, Option, Some, None}
use Rattle.std.specs.List.{list_any, position_or_len}
use Rattle.dwarf_info.specs.Entries.{named}
use Rattle.std.specs.Cmp.Lexicographic.{pointwise}
use Rattle.std.specs.Option.{option_and_then}
use Rattle.dwarf_line.specs.declared.table.FileEntry.{FileEntry}
use Rattle.read_metadata.specs.Maps.{Maps}
use Rattle.read_metadata.specs.Metadata.{file_of_scope_at, subprogram_at}
use Rattle.read_metadata.specs.declared.node.FileNode.{FileNode}
use Rattle.dwarf_line_table.specs.declared.file.SourceFile.{SourceFile}

-- the file of a DIFile node
abbrev pub file_of_node : FileNode → SourceFile
file_of_node n = record { name = named n.name; dir = named n.dir }

-- the file if none is readable: an empty name and directory
abbrev pub no_file : SourceFile
no_file = record { name = []; dir = [] }

-- the file of a node, or another one if no node is readable
abbrev pub file_or : Option FileNode → SourceFile → SourceFile
file_or None other = other
file_or (Some n) other = file_of_node n

-- the file of a function's subprogram, found by the function's name
abbrev pub function_file : Maps → List ℕ → Option FileNode
function_file meta name = option_and_then (file_of_scope_at meta) (subprogram_at meta name)

-- the unit's file: that of the first function in the list whose subprogram has a readable one
abbrev pub unit_file : Maps → List (List ℕ) → SourceFile
unit_file meta [] = no_file
unit_file meta (name ∷ names) = file_or (function_file meta name) (unit_file meta names)

-- the first file, which is the unit's, or `no_file` of no files
abbrev pub unit_in : List SourceFile → SourceFile
unit_in [] = no_file
unit_in (f ∷ files) = f

-- two names have the same bytes
abbrev pub is_name : List ℕ → List ℕ → Bool
is_name a b = pointwise nat_eq a b

-- two files are the same if their names and directories are
abbrev pub is_file : SourceFile → SourceFile → Bool
is_file f g = is_name f.name g.name && is_name f.dir g.dir

-- the list, with an element appended unless it is in the list
abbrev pub with_new : {X : Type 0} → (X → X → Bool) → List X → X → List X
with_new is known x = if list_any (is x) known then known else known ++ x ∷ []

-- the list, with other elements appended, each once and in the order of their first use
abbrev pub first_uses : {X : Type 0} → (X → X → Bool) → List X → List X → List X
first_uses is known [] = known
first_uses is known (x ∷ xs) = first_uses is (with_new is known x) xs

-- the files of a line number table from number 1 on: the unit's, and the others in the order of their first use
abbrev pub files_of : SourceFile → (uses : List SourceFile) → List SourceFile
files_of unit uses = first_uses is_file (unit ∷ []) uses

-- the number of a file, by the files from number 1 on
abbrev pub number_in : List SourceFile → SourceFile → ℕ
number_in files f = 1 + position_or_len (is_file f) files

-- the directories of files, each once, in the order of their first use
abbrev pub dirs_of : List SourceFile → List (List ℕ)
dirs_of files = first_uses is_name [] (map (λ f. f.dir) files)

-- a file's entry, with the index of its directory
abbrev pub entry_in : (dirs : List (List ℕ)) → SourceFile → FileEntry
entry_in dirs f = record { name = f.name; dir = position_or_len (is_name f.dir) dirs }

-- the entry with number 0: the first file's name, and directory 0
abbrev pub entry_zero : List SourceFile → List FileEntry
entry_zero [] = []
entry_zero (f ∷ files) = record { name = f.name; dir = 0 } ∷ []

-- all file entries: the one with number 0, and those of the files from number 1 on
abbrev pub entries_of : List SourceFile → List FileEntry
entries_of files = entry_zero files ++ map (entry_in (dirs_of files)) files
