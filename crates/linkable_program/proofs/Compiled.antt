-- The functions of a compiled program with their code, and the contents of its debug sections.
use Rattle.std.specs.Prelude.{All, Result, Ok, Err, IfOk}
use Rattle.std.proofs.Common.{◌≡◌, ℕ, ◌^◌, ◌<◌, ◌≤◌, Bool, List, length, map, sym, ◌∙◌, subst, inr}
use Rattle.dwarf_base.specs.Limits.{SECTION_LIMIT}
use Rattle.read_types.specs.Types.{types_of}
use Rattle.program_entries.specs.Program.{program_unit}
use Rattle.read_debug_nodes.specs.Metadata.{debug_metadata}
use Rattle.sized_lists.specs.Grammar.{IsSizedSection}
use Rattle.sized_lists.specs.Sized.{sized}
use Rattle.sized_lists.specs.Spelling.{spelling as lists_spelling}
use Rattle.variable_sizes.proofs.Small.{sizes_small}
use Rattle.compile_program.specs.declared.compile.Compilation.{Compilation}
use Rattle.compile_program.specs.Program.{CompiledFunction, IsCompilationOf, names_of}
use Rattle.compile_program.proofs.Compiled.{all_coded, all_of_functions, as_many_compiled, of_each, passed_length}
use Rattle.dwarf_sections.specs.dwarf_line_table.declared.source_and_code.SourceAndCode.{SourceAndCode}
use Rattle.dwarf_sections.specs.Frame.{IsOfFunction}
use Rattle.dwarf_loclists.specs.declared.range.Range.{Range}
use Rattle.dwarf_sections.specs.listing_text.declared.output.ListedFunction.{ListedFunction}
use Rattle.kept_lists.specs.Kept.{AllKept}
use Rattle.pass_list.specs.declared.kind.PassKind.{PassKind}
use Rattle.read_metadata.specs.read_lexer.declared.line.Line.{Line}
use Rattle.compile_program.specs.read_program.declared.program.Program.{Program}
use Rattle.object_command.specs.declared.object.ObjectError.{ObjectError}
use Rattle.linkable_command.specs.declared.tables.DebugTables.{DebugTables}
use Rattle.linkable_command.specs.Linkable.{IsLinkableObject, HasLargeLinkable}
use Rattle.linkable_program.specs.Program.{AreCompiledOf, AreTables, AreTablesLarge, AreTablesOf, AreTablesOfLarge, AreListSizesOf, AreListsOf, AreListsOfLarge}
use Rattle.linkable_program.specs.Program.{IsLinkableOf, IsLinkableLarge}

module _ (reserve : List ℕ) (passes : List PassKind) (p : Program) (c : Compilation) (is : IsCompilationOf reserve passes p c) where
  pub as_many : length p.functions ≡ length c.functions
  as_many =
      sym (passed_length p.meta p.functions is.functions is.passed)
      ∙ (as_many_compiled (names_of p.meta) reserve passes 0 0 is.functions c.output.functions c.functions is.compiled).0

  pub as_many_listed : length c.functions ≡ length c.output.functions
  as_many_listed = (as_many_compiled (names_of p.meta) reserve passes 0 0 is.functions c.output.functions c.functions is.compiled).1

  pub codes_of : (cs : List SourceAndCode) → map (λ x. x.code.now) cs ≡ map (λ f. f.code) c.functions
      → All (λ (x : SourceAndCode). IsOfFunction x.code.now) cs
  codes_of cs same =
      of_each cs (subst (All IsOfFunction) (sym same) (all_of_functions 0 (map (λ q. q.function) is.functions) (map (λ f. f.code) c.functions)
      (all_coded (names_of p.meta) reserve passes 0 0 is.functions c.output.functions c.functions is.compiled)))

pub kept_of : (c : Compilation) (functions : List CompiledFunction) (listed : List ListedFunction) (lists : List (List Range)) → functions ≡ c.functions
    → listed ≡ c.output.functions → AllKept functions listed lists → AllKept c.functions c.output.functions lists
kept_of c functions listed lists same shown kept =
    subst (λ (fs : List ListedFunction). AllKept c.functions fs lists) shown (subst (λ (cs : List CompiledFunction). AllKept cs listed lists) same kept)

module _ (lines : List Line) (p : Program) (c : Compilation) (with_frame : Bool) (cs : List SourceAndCode) (of : AreCompiledOf p c cs) where
  pub tables_of : (r : Result DebugTables ObjectError) → IfOk r (AreTables lines p.meta (length c.output.text) with_frame cs)
      → IfOk r (AreTablesOf lines p c with_frame)
  tables_of (Ok t) are = record { compiled = cs; of = of; are = are }
  tables_of (Err e) are = tt

  pub large_of : AreTablesLarge lines p.meta (length c.output.text) with_frame cs → AreTablesOfLarge lines p c with_frame
  large_of large = record { compiled = cs; of = of; large = large }

pub small_sizes : (lines : List Line) (p : Program) (c : Compilation) (with_frame : Bool) (count : ℕ) (sizes : List ℕ)
    → AreListSizesOf lines p c with_frame count sizes → All (λ (n : ℕ). n < 2 ^ 61) sizes
small_sizes lines p c with_frame count sizes of =
    let debug = debug_metadata lines in
    sizes_small (types_of debug) count (program_unit debug p.meta (length c.output.text) with_frame of.compiled) sizes of.are

module _ (lines : List Line) (p : Program) (c : Compilation) (with_frame : Bool) (lists : List (List Range)) (kept : AllKept c.functions c.output.functions lists) where
  pub lists_of : (sizes : List ℕ) → AreListSizesOf lines p c with_frame (length lists) sizes → (r : Result (List ℕ) ObjectError)
      → IfOk r (λ bytes. IsSizedSection bytes (sized sizes 0 lists)) → IfOk r (AreListsOf lines p c with_frame)
  lists_of sizes of (Ok bytes) section = record { lists = lists; kept = kept; sizes = sizes; sized_by = of; section = section }
  lists_of sizes of (Err e) section = tt

  pub lists_large : (sizes : List ℕ) → AreListSizesOf lines p c with_frame (length lists) sizes
      → SECTION_LIMIT ≤ length (lists_spelling (sized sizes 0 lists)) → AreListsOfLarge lines p c with_frame
  lists_large sizes of large = record { lists = lists; kept = kept; sizes = sizes; sized_by = of; large = large }

module _ (lines : List Line) (p : Program) (c : Compilation) (with_frame : Bool) (flags : ℕ) (t : DebugTables) (are : AreTablesOf lines p c with_frame t) where
  pub object_of : (lists : List ℕ) → AreListsOf lines p c with_frame lists → (r : Result (List ℕ) ObjectError) → IfOk r (IsLinkableObject flags c.output lists t)
      → IfOk r (IsLinkableOf lines p c with_frame flags)
  object_of lists of (Ok bytes) object = record { tables = t; are = are; loclists = lists; lists = of; object = object }
  object_of lists of (Err e) object = tt

  pub file_large : (lists : List ℕ) → AreListsOf lines p c with_frame lists → HasLargeLinkable flags c.output lists t → IsLinkableLarge lines p c with_frame flags
  file_large lists of large = inr (inr (record { tables = t; are = are; loclists = lists; lists = of; large = large }))
