-- Runs of the functions of a compiled program.
use Rattle.std.specs.Prelude.{◌≡◌, ◌≢◌, ℕ, ◌+◌, ◌*◌, ◌<◌, ◌≤◌, ◌^◌, List, length, map, take, All, Some, slice_get}
use Rattle.rv64_instr.specs.declared.symbol.Symbol.{Symbol}
use Rattle.listing_text.specs.declared.output.ListedFunction.{ListedFunction}
use Rattle.listing_text.specs.declared.output.ListedVariable.{ListedVariable}
use Rattle.dwarf_loclists.specs.declared.range.Range.{Range}
use Rattle.dwarf_loclists.specs.Ranges.{Ascend, ArePlaces}
use Rattle.compile_program.specs.read_program.declared.program.Program.{Program}
use Rattle.pass_list.specs.declared.kind.PassKind.{PassKind}
use Rattle.compile_program.specs.Program.{CompiledFunction, IsCompilationOf, lists_of}
pub use Rattle.compile_program.specs.declared.compile.Compilation.{Compilation}
use Rattle.sim_start.specs.InitialMachine.{IsTextOfAskedRun}
use Rattle.sim_start.specs.sim_trace.Variables.{variable_of}
use Rattle.sim_start.specs.sim_machine.Shown.{ShowsCode}
use Rattle.compile_program.specs.listing_meaning.Program.{image_of}

-- no function has the name
abbrev pub HasNone : (name : List ℕ) → List ListedFunction → Type 0
HasNone name functions = All (λ (f : ListedFunction). f.name ≢ name) functions

-- the first function with the name has this index
pub record IsFirstNamed (name : List ℕ) (functions : List ListedFunction) (number : ℕ) : Type 0 where
  pub function : ListedFunction
  pub stands : slice_get functions number ≡ Some function
  pub named : function.name ≡ name
  pub first : HasNone name (take number functions)

-- The text is that of a run of the first function with the name: of its machine code, with its listed variables by their location lists.
pub record IsRunOf (c : Compilation) (name : List ℕ) (limit : ℕ) (addresses : List (Symbol × ℕ)) (arguments values : List ℕ) (text : List ℕ) : Type 0 where
  pub number : ℕ
  pub named : IsFirstNamed name c.output.functions number
  pub compiled : CompiledFunction
  pub stands : slice_get c.functions number ≡ Some compiled
  pub runs : IsTextOfAskedRun compiled.code addresses arguments values (map (variable_of (lists_of c.functions)) named.function.variables) limit text

-- Each function has its code, at 32-bit addresses, and each variable has a location list that can be read.
pub record CanRun (c : Compilation) : Type 0 where
  pub functions : length c.functions ≡ length c.output.functions
  pub low : All (λ (k : CompiledFunction). k.code.base + 4 * length k.code.words ≤ 2 ^ 32) c.functions
  pub listed : All (λ (f : ListedFunction). All (λ (v : ListedVariable). v.list < length (lists_of c.functions)) f.variables) c.output.functions
  pub readable : All (λ (ranges : List Range). Ascend ranges × ArePlaces ranges) (lists_of c.functions)

-- Every compilation of a program can be run.
abbrev pub CompilationsCanRun : Type 0
CompilationsCanRun = (reserve : List ℕ) (passes : List PassKind) (p : Program) (c : Compilation) → IsCompilationOf reserve passes p c → CanRun c

-- The image of a function in the output, of which the headline holds, is one of the code that runs.
abbrev pub CompilationsShowCode : Type 0
CompilationsShowCode = (reserve : List ℕ) (passes : List PassKind) (p : Program) (c : Compilation) → IsCompilationOf reserve passes p c →
    (number : ℕ) (f : ListedFunction) (k : CompiledFunction) → slice_get c.output.functions number ≡ Some f → slice_get c.functions number ≡ Some k →
    ShowsCode k.code (image_of c.output f)
