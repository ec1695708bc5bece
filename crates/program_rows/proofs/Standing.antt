-- Each function of a program's table has the rows of its source positions.
use Rattle.std.specs.Prelude.{All}
use Rattle.std.specs.List.{AllByRecursion, AllZip}
use Rattle.std.proofs.Common.{◌≡◌, ℕ, List, [], ◌∷◌, map, refl, sym, ap, ◌∙◌, subst}
use Rattle.std.proofs.lemmas.List.Elements.{recursion_from_All}
use Rattle.dwarf_line.specs.declared.table.Sequence.{Sequence}
use Rattle.dwarf_line.specs.declared.table.LineTable.{LineTable}
use Rattle.read_metadata.specs.Maps.{Maps}
use Rattle.read_metadata.specs.Metadata.{subprogram_at}
use Rattle.read_debug_nodes.specs.Maps.{DebugMaps}
use Rattle.dwarf_line_table.specs.declared.file.SourceFile.{SourceFile}
use Rattle.dwarf_line_table.specs.declared.source_and_code.SourceAndCode.{SourceAndCode}
use Rattle.dwarf_line_table.specs.Program.{program_file}
use Rattle.dwarf_line_table.specs.Rows.{IsLastAt}
use Rattle.prologue_rows.specs.declared.function.LinedFunction.{LinedFunction}
use Rattle.prologue_rows.specs.declared.words.SourceWord.{SourceWord}
use Rattle.prologue_rows.specs.Words.{words_of}
use Rattle.prologue_rows.specs.Lines
use Rattle.prologue_rows.specs.Rows.{row_of}
use Rattle.prologue_rows.specs.Table.{lines_of, rows_of, sequence_of, files_of, table_of}
use Rattle.prologue_rows.specs.Laws.{BeginsAt}
use Rattle.prologue_rows.proofs.Places.{rows_give_places, rows_begin}
use Rattle.program_rows.specs.Program.{body_line}
use Rattle.program_rows.specs.Stand.{lines_for, HasRowsOf, IsInOrder, ProgramRowsStand}

head_is : {X : Type 0} (x y : X) (xs ys : List X) → x ∷ xs ≡ y ∷ ys → x ≡ y
head_is x y xs ys same = cc

rest_is : {X : Type 0} (x y : X) (xs ys : List X) → x ∷ xs ≡ y ∷ ys → xs ≡ ys
rest_is x y xs ys same = cc

no_items : {X : Type 0} (y : X) (ys : List X) → [] ≡ y ∷ ys → ⊥
no_items y ys same = let f : ⊥ = cc in f

no_more : {X : Type 0} (x : X) (xs : List X) → x ∷ xs ≡ [] → ⊥
no_more x xs same = let f : ⊥ = cc in f

module _ (debug : DebugMaps) (meta : Maps) (unit : SourceFile) (files : List SourceFile) where
  -- of a function with the line of its body
  one_lined : (l : LinedFunction) → l.line ≡ body_line debug meta l.function → IsInOrder l.function
      → HasRowsOf debug meta unit files l.function (sequence_of files meta unit l)
  one_lined l line stand =
      let f = l.function in
      let lines : lines_for debug meta f ≡ lines_of meta l =
      ap (λ (n : ℕ). Lines.lines_of (record { line = n; column = 0; scope = subprogram_at meta f.source.now.name }) f.code.now.base (words_of meta f))
      (sym line) in
      record {
        places = λ address row last.
            rows_give_places files meta unit l stand address row
            (subst (λ (ls : List SourceWord). IsLastAt (map (row_of files meta unit) ls) address row) lines last);
        begins = λ behind more is.
            subst (λ (own : ℕ). BeginsAt (rows_of files meta unit l) f.code.now.base own behind) line (rows_begin files meta unit l behind more is);
        ends = refl;
      }

  one : (l : LinedFunction) (f : SourceAndCode) → l.function ≡ f → l.line ≡ body_line debug meta f → IsInOrder f
      → HasRowsOf debug meta unit files f (sequence_of files meta unit l)
  one l f same line stand =
      subst (λ (g : SourceAndCode). HasRowsOf debug meta unit files g (sequence_of files meta unit l)) same
      (one_lined l (line ∙ ap (body_line debug meta) (sym same)) (subst IsInOrder (sym same) stand))

  each : (ls : List LinedFunction) (fs : List SourceAndCode) → map (λ l. l.function) ls ≡ fs → map (λ l. l.line) ls ≡ map (body_line debug meta) fs
      → AllByRecursion IsInOrder fs → AllZip (HasRowsOf debug meta unit files) fs (map (sequence_of files meta unit) ls)
  each [] [] same lines stand = tt
  each [] (f ∷ fs) same lines stand = absurd (no_items f fs same)
  each (l ∷ ls) [] same lines stand = absurd (no_more l.function (map (λ x. x.function) ls) same)
  each (l ∷ ls) (f ∷ fs) same lines stand = (
    one l f (head_is l.function f (map (λ x. x.function) ls) fs same)
        (head_is l.line (body_line debug meta f) (map (λ x. x.line) ls) (map (body_line debug meta) fs) lines) stand.0,
    each ls fs (rest_is l.function f (map (λ x. x.function) ls) fs same)
        (rest_is l.line (body_line debug meta f) (map (λ x. x.line) ls) (map (body_line debug meta) fs) lines) stand.1,
  )

pub rows_stand : ProgramRowsStand
unfolding table_of
rows_stand debug meta functions t is stand =
    let unit = program_file meta functions in
    let files = files_of meta unit is.lined in
    record {
      named = files;
      dirs = ap (λ (x : LineTable). x.dirs) is.table;
      files = ap (λ (x : LineTable). x.files) is.table;
      each =
          subst (λ (ss : List Sequence). AllZip (HasRowsOf debug meta unit files) functions ss) (sym (ap (λ (x : LineTable). x.sequences) is.table))
          (each debug meta unit files is.lined functions is.are.same is.are.lines (recursion_from_All IsInOrder functions stand));
    }
