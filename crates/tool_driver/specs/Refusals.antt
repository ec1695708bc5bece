-- Why a command is refused, and that it is answered where nothing refuses it.
use Rattle.std.specs.Prelude.{◌≡◌, Bool, true, ℕ, ◌+◌, ◌≤◌, List, [], length, Option, Some, None, Ok, Err}
use Rattle.read_refusal.specs.declared.first.Refusal.{Refusal}
use Rattle.read_metadata.specs.read_lexer.declared.line.Line.{Line}
use Rattle.read_program.specs.declared.program.Program.{Program}
use Rattle.read_program.specs.declared.error.ParseError.TheVariants as errors
use Rattle.read_program.specs.Program.{ReadsText}
use Rattle.selftest_command.specs.run_command.Program.{HaveRegisters, HasVirtualRegister, HasLargeFrame, HasLargeSection, HasLargeFrameSection, HasLargeInlinedSection}
use Rattle.cli.specs.declared.command.Command.{Command}
use Rattle.cli.specs.declared.fault.Fault.{Fault}
use Rattle.cli.specs.declared.command.CompilePlan.{CompilePlan}
use Rattle.cli.specs.declared.command.LinkableForm.{LinkableForm}
use Rattle.cli.specs.declared.command.ObjectPlan.{ObjectPlan}
use Rattle.cli.specs.declared.command.PassPipeline.{PassPipeline}
use Rattle.cli.specs.declared.command.RunPlan.{RunPlan}
use Rattle.cli.specs.declared.command.TestPlan.{TestPlan}
use Rattle.cli.specs.Command.{IsCommand}
use Rattle.cli.specs.Fault.{line_of}
use Rattle.cli.specs.declared.command.Command.TheVariants.{Compile, Listing, Report, Object, Run, Strip, Gen, SelfTest}
use Rattle.cli.specs.declared.fault.Fault.TheVariants.{TooLong, Refused, NoFunction, UnknownFunction, NoRegister, FrameTooLarge, SymbolName}
use Rattle.cli.specs.declared.fault.Fault.TheVariants.{SectionTooLarge}
use Rattle.cli_numbers.specs.declared.generation.Generation.{Generation}
use Rattle.selftest_command.specs.run_command.Source.{IsUnknown}
use Rattle.tool_driver.specs.Limits.{INPUT_LIMIT}
use Rattle.tool_driver.specs.Compiled.{plan_steps, HasInvalidNameAsked, IsLargeObjectOf, IsLargeLinkableOf}
use Rattle.tool_driver.specs.Stream.{Change, IsReadFor, IsTold}
use Rattle.tool_driver.specs.Answer.{is_linked, block_lines, HasFunctions}
use Rattle.tool_driver.specs.Run.{HasRead, HasReadProgram, HasReadLines}

-- the commands that read the input
abbrev pub IsReader : Command → Type 0
IsReader (Compile plan) = Unit {0}
IsReader (Listing plan) = Unit {0}
IsReader (Report plan) = Unit {0}
IsReader (Object asked) = Unit {0}
IsReader (Run run) = Unit {0}
IsReader (Strip linked) = Unit {0}
IsReader (Gen g) = ⊥
IsReader (SelfTest test) = ⊥

-- the input is longer than the limit: one byte more than the limit was read, without a fault
abbrev pub IsTooLong : (input : Change) → Type 0
IsTooLong input = IsReadFor input (INPUT_LIMIT + 1)

-- the text is refused at a line, for a cause; `linked` is whether the linked language is read
abbrev pub IsRefusedAt : (linked : Bool) → (text : List ℕ) → Refusal → Type 0
IsRefusedAt linked text r = ReadsText linked text (Err (errors.Refused r))

-- the text is read as a program without functions
pub record HasNoFunction (linked : Bool) (text : List ℕ) : Type 0 where
  pub program : Program
  pub reads : ReadsText linked text (Ok program)
  pub no_one : program.functions ≡ []

-- the passes by which a command compiles what it reads, if it does
abbrev pub plan_of : Command → Option PassPipeline
plan_of (Compile asked) = Some asked.plan
plan_of (Listing plan) = Some plan
plan_of (Report plan) = Some plan
plan_of (Object asked) = Some asked.plan
plan_of (Run run) = Some run.plan
plan_of (Strip linked) = None
plan_of (Gen g) = None
plan_of (SelfTest test) = None

-- a run is of a function that the program has
abbrev pub IsNamed : Command → Program → Type 0
IsNamed command program = (run : RunPlan) → command ≡ Run run → IsUnknown run.name program.functions → ⊥

-- Why a command writes nothing for a program: it names a function that isn't there; linear scan leaves a virtual register in a function; otherwise the frame
-- of a function is above the limit after the passes; a section is, `.debug_frame` and those with inlined functions only if they are asked for, or the object;
-- or a name can't be a symbol's.
pub data RefusesProgram (command : Command) (program : Program) : Fault → Type 0 where
  unknown_function : (run : RunPlan) → command ≡ Run run → IsUnknown run.name program.functions → RefusesProgram command program UnknownFunction
  no_register : (plan : PassPipeline) → plan_of command ≡ Some plan → IsNamed command program → HasVirtualRegister plan.reserve program.functions →
      RefusesProgram command program NoRegister
  frame_too_large : (plan : PassPipeline) → plan_of command ≡ Some plan → IsNamed command program → HaveRegisters plan.reserve program.functions →
      HasLargeFrame (plan_steps plan) program.functions → RefusesProgram command program FrameTooLarge
  section_too_large : (plan : PassPipeline) → plan_of command ≡ Some plan → IsNamed command program → HasLargeSection (plan_steps plan) program →
      RefusesProgram command program SectionTooLarge
  frame_section_too_large : (asked : CompilePlan) → command ≡ Compile asked → asked.frame ≡ true → HasLargeFrameSection (plan_steps asked.plan) program →
      RefusesProgram command program SectionTooLarge
  inlined_section_too_large : (asked : CompilePlan) → command ≡ Compile asked → asked.inline ≡ true →
      HasLargeInlinedSection (plan_steps asked.plan) program → RefusesProgram command program SectionTooLarge
  object_too_large : (asked : ObjectPlan) → command ≡ Object asked → asked.form ≡ None → IsLargeObjectOf (plan_steps asked.plan) program →
      RefusesProgram command program SectionTooLarge
  no_symbol_name : (asked : ObjectPlan) → command ≡ Object asked → HasInvalidNameAsked asked.form asked.plan program →
      RefusesProgram command program SymbolName

-- Why a command writes nothing for a program with an IR block of these lines: the object that a linker places, or a section of it, is above the limit.
pub data RefusesLines (command : Command) (lines : List Line) (program : Program) : Fault → Type 0 where
  linkable_too_large : (asked : ObjectPlan) (form : LinkableForm) → command ≡ Object asked → asked.form ≡ Some form →
      IsLargeLinkableOf form asked.plan lines program → RefusesLines command lines program SectionTooLarge

-- Why a command is refused: its input is too long, is refused at a line or has no function; or the program that was read is refused, or its lines are.
pub data Refuses (command : Command) (input : Change) : Fault → Type 0 where
  too_long : IsReader command → IsTooLong input → Refuses command input TooLong
  refused_at : (text : List ℕ) (r : Refusal) → IsReader command → HasRead input text → IsRefusedAt (is_linked command) text r →
      Refuses command input (Refused r)
  no_function : (text : List ℕ) → IsReader command → HasRead input text → HasNoFunction (is_linked command) text → Refuses command input NoFunction
  refused_program : {fault : Fault} (program : Program) → IsReader command → HasReadProgram (is_linked command) input program →
      RefusesProgram command program fault →
      Refuses command input fault
  refused_lines : {fault : Fault} (lines : List Line) (program : Program) → IsReader command → HasReadLines (is_linked command) input lines program →
      RefusesLines command lines program fault → Refuses command input fault

-- the words are a command, which is refused, and the line for that fault is written to `faults`
pub record TellsRefusal (words : List (List ℕ)) (input faults : Change) : Type 0 where
  pub command : Command
  pub asked : IsCommand words command
  pub fault : Fault
  pub refused : Refuses command input fault
  pub told : IsTold faults (line_of fault)

-- the programs for which a command writes output: nothing refuses them
abbrev pub IsAnswered : Command → Program → Type 0
IsAnswered command program = (fault : Fault) → RefusesProgram command program fault → ⊥

-- the lines of an IR block for which it does, with the program
abbrev pub AreAnswered : Command → List Line → Program → Type 0
AreAnswered command lines program = (fault : Fault) → RefusesLines command lines program fault → ⊥

-- the bytes of the input are known, within the limit, and read as this program, which has a function
pub record IsInputOf (linked : Bool) (left : Option (List ℕ)) (program : Program) : Type 0 where
  pub text : List ℕ
  pub told : left ≡ Some text
  pub within : length text ≤ INPUT_LIMIT
  pub has : HasFunctions linked text program

-- the inputs for which a command writes output: any, if it makes its function up; else those that are read as a program that nothing refuses
pub data IsAnswerable (command : Command) (left : Option (List ℕ)) : Type 0 where
  generates : (g : Generation) → command ≡ Gen g → IsAnswerable command left
  tests : (test : TestPlan) → command ≡ SelfTest test → IsAnswerable command left
  answers : (program : Program) → IsReader command → (of : IsInputOf (is_linked command) left program) → IsAnswered command program →
      AreAnswered command (block_lines (is_linked command) of.text) program → IsAnswerable command left
