-- The names of directories and files have no zero byte.
use Rattle.std.proofs.Common.{ℕ, ◌<◌, Bool, true, false, if◌then◌else◌, List, [], ◌∷◌, ◌++◌, map, All, arith}
use Rattle.std.specs.List.{list_any, flat_map}
use Rattle.std.proofs.lemmas.List.Elements.{All-nil, All-cons, All-head, All-tail, All-map, All-weaker, All-append, All-push, All-from_recursion}
use Rattle.dwarf_info.specs.Entries.{named}
use Rattle.dwarf_line.specs.Table.{IsName, IsNamed, HasNames}
use Rattle.read_metadata.specs.Maps.{Maps}
use Rattle.dwarf_line_table.specs.declared.file.SourceFile.{SourceFile}
use Rattle.dwarf_line_table.specs.Files.{is_file, is_name, with_new, first_uses, dirs_of, entry_in}
use Rattle.dwarf_line_table.specs.SourcePosition.{scope_file}
use Rattle.dwarf_line_table.proofs.Clean.{IsClean, named_is}
use Rattle.prologue_rows.specs.declared.function.LinedFunction.{LinedFunction}
use Rattle.prologue_rows.specs.declared.words.SourceWord.{SourceWord}
use Rattle.prologue_rows.specs.Files.{known_name, table_file}
use Rattle.prologue_rows.specs.Rows.{line_file}
use Rattle.prologue_rows.specs.Table.{lines_of, declared_of, uses_of, files_of, table_of}

known_is : (name : List ℕ) → IsName name → IsName (known_name name)
known_is [] is =
    All-from_recursion (λ byte. 0 < byte) (known_name []) (
      omega arith,
      (omega arith, (omega arith, (omega arith, (omega arith, (omega arith, (omega arith, tt)))))),
    )
known_is (b ∷ name) is = is

file_clean : (f : SourceFile) → IsClean (table_file f)
file_clean f = record { name = known_is (named f.name) (named_is f.name); dir = named_is f.dir }

all_clean : {X : Type 0} (file : X → SourceFile) (xs : List X) → All IsClean (map (λ x. table_file (file x)) xs)
all_clean file [] = All-nil IsClean
all_clean file (x ∷ xs) = All-cons IsClean (table_file (file x)) (map (λ x. table_file (file x)) xs) (file_clean (file x)) (all_clean file xs)

lines_clean : (meta : Maps) (unit : SourceFile) (lines : List SourceWord) → All IsClean (map (line_file meta unit) lines)
lines_clean meta unit [] = All-nil IsClean
lines_clean meta unit (w ∷ lines) =
    All-cons IsClean (line_file meta unit w) (map (line_file meta unit) lines) (file_clean (scope_file meta unit w.scope)) (lines_clean meta unit lines)

uses_clean : (meta : Maps) (unit : SourceFile) (functions : List LinedFunction) → All IsClean (flat_map (uses_of meta unit) functions)
uses_clean meta unit [] = All-nil IsClean
uses_clean meta unit (f ∷ functions) =
    All-append IsClean (uses_of meta unit f) (flat_map (uses_of meta unit) functions)
    (All-append IsClean (map (line_file meta unit) (lines_of meta f)) (map table_file (declared_of f)) (lines_clean meta unit (lines_of meta f))
    (all_clean (λ d. d) (declared_of f)))
    (uses_clean meta unit functions)

first_all : {X : Type 0} (P : X → Type 0) (is : X → X → Bool) (known xs : List X) → All P known → All P xs → All P (first_uses is known xs)
first_all P is known [] old new = old
first_all P is known (x ∷ xs) old new = first_all P is (with_new is known x) xs (by (list_any (is x) known)) (All-tail P x xs new)
  where
    by : (b : Bool) → All P (if b then known else known ++ x ∷ [])
    by true = old
    by false = All-push P known x old (All-head P x xs new)

pub table_names : (meta : Maps) (unit : SourceFile) (functions : List LinedFunction) → HasNames (table_of meta unit functions)
unfolding table_of
table_names meta unit functions =
    let files : List SourceFile = files_of meta unit functions in
    let clean : All IsClean files =
    first_all IsClean is_file (table_file unit ∷ []) (flat_map (uses_of meta unit) functions)
    (All-cons IsClean (table_file unit) [] (file_clean unit) (All-nil IsClean)) (uses_clean meta unit functions) in
    record {
      dirs = first_all IsName is_name [] (map (λ f. f.dir) files) (All-nil IsName)
          (All-map IsName (λ f. f.dir) files (All-weaker IsClean (λ f. IsName f.dir) (λ f c. c.dir) files clean));
      files = All-map IsNamed (entry_in (dirs_of files)) files (All-weaker IsClean (λ f. IsName f.name) (λ f c. c.name) files clean);
    }
