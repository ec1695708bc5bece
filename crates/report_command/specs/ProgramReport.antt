-- The report of a compiled program.
use Rattle.std.specs.Prelude.{◌≡◌, ℕ, List, [], ◌∷◌, length, map, All}
use Rattle.listing_text.specs.declared.output.ListedFunction.{ListedFunction}
use Rattle.dwarf_loclists.specs.Ranges.{Ascend}
use Rattle.compile_program.specs.read_program.declared.program.Program.{Program}
use Rattle.compile_program.specs.compile_theorem.Source.{PassedFunction}
use Rattle.pass_list.specs.declared.kind.PassKind.{PassKind}
use Rattle.compile_program.specs.Program.{CompiledFunction, ArePassed, AreCompiledAs, IsCompilationOf, names_of}
use Rattle.compile_program.specs.declared.compile.Compilation.{Compilation}
use Rattle.report_function.specs.declared.reported_function.ReportedFunction.{ReportedFunction}
use Rattle.report_function.specs.ReportText.{program_report}

-- ---- the text

-- what is reported of a function: its machine code, the names of its listed variables, their location lists, and its losses
abbrev pub part_of : ListedFunction → CompiledFunction → ReportedFunction
part_of f c = record { code = c.code; names = map (λ v. v.name) f.variables; lists = c.lists; losses = c.losses }

-- what is reported of functions
abbrev pub parts_of : List ListedFunction → List CompiledFunction → List ReportedFunction
parts_of [] cs = []
parts_of (f ∷ fs) [] = []
parts_of (f ∷ fs) (c ∷ cs) = part_of f c ∷ parts_of fs cs

-- the text of the report of a compiled program
abbrev pub compilation_report : Compilation → List ℕ
compilation_report c = program_report (parts_of c.output.functions c.functions)

-- Each variable of a function has a location list, and the ranges of each list ascend.
pub record HasLists (f : ListedFunction) (c : CompiledFunction) : Type 0 where
  pub many : length c.lists ≡ length f.variables
  pub ascend : All Ascend c.lists

-- This holds for each function.
abbrev pub HaveLists : List ListedFunction → List CompiledFunction → Type 0
HaveLists [] cs = Unit {0}
HaveLists (f ∷ fs) [] = Unit {0}
HaveLists (f ∷ fs) (c ∷ cs) = HasLists f c × HaveLists fs cs

-- ---- the meaning of the report

-- The text is the report of passed functions of a program, which these passes made: of each as it is compiled and listed.
pub record IsReportText (reserve : List ℕ) (passes : List PassKind) (p : Program) (text : List ℕ) : Type 0 where
  pub functions : List PassedFunction
  pub passed : ArePassed p.meta p.functions functions
  pub listed : List ListedFunction
  pub compiled : List CompiledFunction
  pub are : AreCompiledAs (names_of p.meta) reserve passes 0 0 functions listed compiled
  pub spelled : text ≡ program_report (parts_of listed compiled)

-- The report of a compilation can be made, and has the meaning of `IsReportText`.
pub record IsReported (reserve : List ℕ) (passes : List PassKind) (p : Program) (c : Compilation) : Type 0 where
  pub lists : HaveLists c.output.functions c.functions
  pub text : IsReportText reserve passes p (compilation_report c)

-- Every compilation of a program has a report, which is that of the functions that these passes made of the program's functions.
abbrev pub CompilationsAreReported : Type 0
CompilationsAreReported = (reserve : List ℕ) (passes : List PassKind) (p : Program) (c : Compilation) →
    IsCompilationOf reserve passes p c → IsReported reserve passes p c
