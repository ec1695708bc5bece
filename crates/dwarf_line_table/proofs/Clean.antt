-- The names of a table have no zero byte.
-- Plan: a name up to its first zero byte has none; each file is of such names or has none at all, and so is each that is used.
use Rattle.std.proofs.Common.{◌≡◌, ℕ, ◌<◌, Bool, true, false, List, [], ◌∷◌, ◌++◌, map, length, take, eqb, if◌then◌else◌, Some, None, arith, sym}
use Rattle.std.proofs.Common.{subst, get_or-take, min}
use Rattle.std.proofs.lemmas.List.{length-take}
use Rattle.std.specs.Prelude.{Option, All}
use Rattle.std.specs.List.{flat_map, list_any, position_or_len}
use Rattle.std.proofs.lemmas.Bool.{eqb-false}
use Rattle.std.proofs.lemmas.List.Elements.{All-nil, All-cons, All-append, All-push, All-map, All-head, All-tail, All-weaker, All-from_get_or}
use Rattle.std.proofs.lemmas.List.Sums.{fails_before_first}
use Rattle.dwarf_info.specs.Entries.{named}
use Rattle.dwarf_line.specs.Table.{IsName, IsNamed, HasNames}
use Rattle.read_metadata.specs.Maps.{Maps}
use Rattle.read_metadata.specs.declared.node.FileNode.{FileNode}
use Rattle.mir_func.specs.declared.block.Block.{Block}
use Rattle.mir_func.specs.Positions.{position_of}
use Rattle.emit_code.specs.declared.code.EncodedInstruction.{EncodedInstruction}
use Rattle.dwarf_line_table.specs.declared.source_and_code.SourceAndCode.{SourceAndCode}
use Rattle.dwarf_line_table.specs.declared.file.SourceFile.{SourceFile}
use Rattle.dwarf_line_table.specs.Files.{file_or, function_file, unit_file, is_file, is_name, with_new, first_uses, dirs_of, entry_in, entry_zero}
use Rattle.std.specs.Option.{option_and_then}
use Rattle.read_metadata.specs.Metadata.{file_of_scope_at}
use Rattle.dwarf_line_table.specs.SourcePosition.{scope_line, scope_file, loc_of}
use Rattle.dwarf_line_table.specs.Table.{uses_in}
use Rattle.dwarf_line_table.specs.Program.{program_files, function_uses, files_with, table_with}

positive : (b : ℕ) → eqb b 0 ≡ false → 0 < b
positive b e = let not_zero : b ≡ 0 → ⊥ = eqb-false b 0 e in omega (arith, not_zero)

pub named_is : (name : List ℕ) → IsName (named name)
named_is name =
    let n = position_or_len (λ b. eqb b 0) name in
    All-from_get_or (λ byte. 0 < byte) (named name) 0 (λ i inside.
    let P : ℕ → Type 0 = λ b. 0 < b in
    let long : length (take n name) ≡ min n (length name) = length-take n name in
    let below : i < length (take n name) = inside in
    let within : i < n = omega (arith, long, below) in
    subst P (sym (get_or-take n name i 0 within)) (positive _ (fails_before_first (λ b. eqb b 0) name i 0 within)))

pub record IsClean (f : SourceFile) : Type 0 where
  pub name : IsName f.name
  pub dir : IsName f.dir

or_clean : (o : Option FileNode) (unit : SourceFile) → IsClean unit → IsClean (file_or o unit)
or_clean None unit clean = clean
or_clean (Some n) unit clean = record { name = named_is n.name; dir = named_is n.dir }

unit_clean : (meta : Maps) (names : List (List ℕ)) → IsClean (unit_file meta names)
unit_clean meta [] = record { name = All-nil _; dir = All-nil _ }
unit_clean meta (name ∷ names) = or_clean (function_file meta name) (unit_file meta names) (unit_clean meta names)

first_all : {X : Type 0} (P : X → Type 0) (is : X → X → Bool) (known xs : List X) → All P known → All P xs → All P (first_uses is known xs)
first_all P is known [] old new = old
first_all P is known (x ∷ xs) old new = first_all P is (with_new is known x) xs (by (list_any (is x) known)) (All-tail P x xs new)
  where
    by : (b : Bool) → All P (if b then known else known ++ x ∷ [])
    by true = old
    by false = All-push P known x old (All-head P x xs new)

uses_clean : (meta : Maps) (unit : SourceFile) (blocks : List Block) (es : List EncodedInstruction) → IsClean unit → All IsClean (uses_in meta unit blocks es)
uses_clean meta unit blocks [] clean = All-nil IsClean
uses_clean meta unit blocks (e ∷ es) clean = All-cons IsClean _ (uses_in meta unit blocks es)
    (or_clean (option_and_then (file_of_scope_at meta) (scope_line meta (loc_of blocks (position_of e.origin))).scope) unit clean)
    (uses_clean meta unit blocks es clean)

all_uses_clean : (meta : Maps) (unit : SourceFile) (functions : List SourceAndCode) → IsClean unit → All IsClean (flat_map (function_uses meta unit) functions)
all_uses_clean meta unit [] clean = All-nil IsClean
all_uses_clean meta unit (f ∷ fs) clean =
    All-append IsClean (function_uses meta unit f) (flat_map (function_uses meta unit) fs)
    (uses_clean meta unit f.source.now.blocks f.code.now.entries clean) (all_uses_clean meta unit fs clean)

files_clean : (meta : Maps) (functions : List SourceAndCode) → All IsClean (program_files meta functions)
files_clean meta functions =
    let clean = unit_clean meta (map (λ f. f.source.now.name) functions) in
    first_all IsClean is_file _ _ (All-cons IsClean _ [] clean (All-nil IsClean)) (all_uses_clean meta _ functions clean)

zero_clean : (files : List SourceFile) → All IsClean files → All IsNamed (entry_zero files)
zero_clean [] clean = All-nil IsNamed
zero_clean (f ∷ files) clean = All-cons IsNamed _ [] (All-head IsClean f files clean).name (All-nil IsNamed)

scopes_clean : (meta : Maps) (unit : SourceFile) (scopes : List (Option ℕ)) → IsClean unit → All IsClean (map (scope_file meta unit) scopes)
scopes_clean meta unit [] clean = All-nil IsClean
scopes_clean meta unit (scope ∷ scopes) clean =
    All-cons IsClean _ (map (scope_file meta unit) scopes) (or_clean (option_and_then (file_of_scope_at meta) scope) unit clean)
    (scopes_clean meta unit scopes clean)

pub table_names : (meta : Maps) (functions : List SourceAndCode) (further : List (Option ℕ)) → HasNames (table_with meta functions further)
unfolding table_with
table_names meta functions further =
    let files = files_with meta functions further in
    let unit = unit_clean meta (map (λ f. f.source.now.name) functions) in
    let clean = first_all IsClean is_file _ _ (files_clean meta functions) (scopes_clean meta _ further unit) in
    record {
      dirs = first_all IsName is_name [] (map (λ f. f.dir) files) (All-nil IsName)
          (All-map IsName (λ f. f.dir) files (All-weaker IsClean (λ f. IsName f.dir) (λ f c. c.dir) files clean));
      files =
          All-append IsNamed (entry_zero files) (map (entry_in (dirs_of files)) files) (zero_clean files clean)
          (All-map IsNamed (entry_in (dirs_of files)) files (All-weaker IsClean (λ f. IsName f.name) (λ f c. c.name) files clean));
    }
