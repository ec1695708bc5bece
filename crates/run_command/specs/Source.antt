-- A run of a function of a compiled program, and the run of its source.
use Rattle.std.specs.Prelude.{◌≡◌, ◌≢◌, ◌⊎◌, ℕ, ◌*◌, ◌%◌, ◌^◌, ◌<◌, List, map, take, All, Some, slice_get, true}
use Rattle.rv64_instr.specs.Linked.{addresses_in}
use Rattle.rv64_instr.specs.declared.symbol.Symbol.{Symbol}
use Rattle.sem_machine.specs.Headline.{StartsAt, AlignsWith, FailsBeforeLine, MachineAlong}
use Rattle.sem_machine.specs.Image.{CodeLine, Image, line_at}
use Rattle.sem_machine.specs.Machine.{Machine, machine_start, register, place_content}
use Rattle.listing_text.specs.declared.output.ListedFunction.{ListedFunction}
use Rattle.listing_text.specs.declared.output.ListedVariable.{ListedVariable}
use Rattle.listing_text.specs.declared.output.Output.{Output}
use Rattle.dwarf_loclists.specs.declared.range.Location.{Location}
use Rattle.dwarf_loclists.specs.declared.range.Location.TheVariants.{Whole, Parts}
use Rattle.dwarf_loclists.specs.declared.range.Range.{Range}
use Rattle.dwarf_loclists.specs.Grammar.{IsSection}
use Rattle.dwarf_loclists.specs.Ranges.{location_in}
use Rattle.mir_func.specs.declared.variable.VarId.{VarId}
use Rattle.mir_func.specs.Function.{Function}
use Rattle.mir_func.specs.Graph.{Program as Graph, program_of}
use Rattle.mir_func.specs.Resolve.{resolve}
use Rattle.sem_mir.specs.Align.{Since, Tells}
use Rattle.sem_mir.specs.State.{State}
use Rattle.compile_program.specs.read_program.declared.closing.Parsed.{Parsed}
use Rattle.compile_program.specs.read_program.declared.program.Program.{Program}
use Rattle.compile_program.specs.compile_theorem.Source.{SourceFunction}
use Rattle.pass_list.specs.declared.kind.PassKind.{PassKind}
use Rattle.compile_program.specs.declared.compile.Compilation.{Compilation}
use Rattle.compile_program.specs.Program.{ExposedSteps, IsCompilationOf, IsOutputOf, steps_of, source_of}
use Rattle.sim_start.specs.InitialMachine.{start_register, replies}
use Rattle.sim_start.specs.sim_trace.Run.{IsRunText}
use Rattle.sim_start.specs.sim_trace.Variables.{variable_of}
use Rattle.compile_program.specs.listing_meaning.Program.{image_of}
use Rattle.compile_program.specs.dwarf_unit.Variables.{whole}
use Rattle.location_of_variable.specs.Groups.{part_of}
use Rattle.location_of_variable.specs.VariableLocation.{bytes_of}
use Rattle.run_command.specs.Runs.{HasNone, IsRunOf}

-- ---- the function

-- no function that was read has the name
abbrev pub IsUnknown : (name : List ℕ) → List Parsed → Type 0
IsUnknown name functions = All (λ (p : Parsed). p.func.name ≢ name) functions

-- the first function with the name, of those that were read, has this index
pub record IsFirstRead (name : List ℕ) (functions : List Parsed) (number : ℕ) : Type 0 where
  pub function : Parsed
  pub stands : slice_get functions number ≡ Some function
  pub named : function.func.name ≡ name
  pub first : IsUnknown name (take number functions)

-- ---- the start

-- A start of a function such that the machine on its image begins with these arguments: they are in x10 and the registers after it, x1 is 4294967296
-- and x2 1048576, every other register is 1000 plus its number, and memory is 0. Symbols have these addresses, and the results of the calls are these
-- values.
pub record BeginsAsked (source : Function) (image : Image) (addresses : List (Symbol × ℕ)) (arguments values : List ℕ) (limit : ℕ) (s : State) : Type 0 where
  pub starts : StartsAt source s
  pub entry : s.core.entry ≡ 1048576
  pub symbols : s.core.symbols ≡ addresses_in addresses
  pub regs : (r : ℕ) → r < 32 → register (machine_start image s) r ≡ start_register arguments r
  pub memory : (a : ℕ) → s.core.memory a ≡ 0
  pub script : s.core.script ≡ replies values 1 limit

-- ---- the values of variables

-- The content of a location of a variable is the source's value: of the newest assignment to the whole variable, or to each of its pieces.
abbrev pub IsSourceValue : State → VarId → Machine → Location → Type 0
IsSourceValue s v m (Whole p) = Tells s (whole v) (place_content p m)
IsSourceValue s v m (Parts pieces) = All (λ x. Tells s (part_of v (Some (bytes_of x))) (place_content x.place m % 2 ^ (8 * x.length))) pieces

-- For each variable of a function, the content of its location at the program counter, if it has one, is the source's value.
abbrev pub AreSourceValues : ListedFunction → (lists : List (List Range)) → State → Machine → Type 0
AreSourceValues f lists s m = (n : ℕ) (line : ListedVariable) (v : VarId) (l : Location) → slice_get f.variables n ≡ Some line → line.variable ≡ whole v →
    location_in (variable_of lists line).ranges m.counter ≡ Some l → IsSourceValue s v m l

-- the source program
abbrev pub graph_of : SourceFunction → Graph
graph_of source = program_of true source.function.blocks (resolve source.substitutions)

-- From every start, for every script and number of machine steps: at each line that the machine comes to, either the source comes to the line's
-- origin, and the contents of its variables' locations are the source's values, or the source stops on a frame fault before.
abbrev pub TellsSource : SourceFunction → Image → ListedFunction → (lists : List (List Range)) → Type 0
TellsSource source image f lists = (s0 : State) → StartsAt source.function s0 → (m : Machine) (s : State) (since : Since) (l : CodeLine) →
    MachineAlong (graph_of source) image (machine_start image s0) s0 m s since → line_at image.lines m.counter ≡ Some l →
    ((s' : State) × AlignsWith (graph_of source) l since s s' × AreSourceValues f lists s' m) ⊎ FailsBeforeLine (graph_of source) l since s

-- ---- the whole statement

-- The text is that of a run of the first function with a name. There is an output, compiled of what steps of passes made of the program. The text is
-- that of the machine's run on the function's image in this output, with the variables by their location lists in the output, and the values of
-- variables are the source's.
pub record IsRunOfProgram (steps : ExposedSteps) (p : Program) (name : List ℕ) (limit : ℕ) (addresses : List (Symbol × ℕ))
    (arguments values text : List ℕ) : Type 0 where
  pub number : ℕ
  pub read : IsFirstRead name p.functions number
  pub output : Output
  pub is : IsOutputOf steps p output
  pub listed : ListedFunction
  pub stands : slice_get output.functions number ≡ Some listed
  pub lists : List (List Range)
  pub section : IsSection output.loclists lists
  pub runs : (s : State) → BeginsAsked read.function.func (image_of output listed) addresses arguments values limit s →
      IsRunText (image_of output listed) (map (variable_of lists) listed.variables) limit (machine_start (image_of output listed) s) text
  pub source : TellsSource (source_of read.function) (image_of output listed) listed lists

-- ---- the theorems

-- The run of a compilation is one of its program.
abbrev pub RunsAreOfPrograms : Type 0
RunsAreOfPrograms = (reserve : List ℕ) (passes : List PassKind) (p : Program) (c : Compilation) (name : List ℕ) (limit : ℕ)
    (addresses : List (Symbol × ℕ)) (arguments values text : List ℕ) → IsOutputOf (steps_of reserve passes) p c.output →
    IsCompilationOf reserve passes p c → IsRunOf c name limit addresses arguments values text →
    IsRunOfProgram (steps_of reserve passes) p name limit addresses arguments values text

-- If no function of a compilation has a name, no function that was read has it.
abbrev pub NamesAreRead : Type 0
NamesAreRead = (reserve : List ℕ) (passes : List PassKind) (p : Program) (c : Compilation) (name : List ℕ) →
    IsOutputOf (steps_of reserve passes) p c.output → HasNone name c.output.functions → IsUnknown name p.functions
