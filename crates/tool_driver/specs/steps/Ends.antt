-- The faults of the parts of a run, as its code meets them: want of memory is one of each part that allocates.
use Rattle.std.specs.Prelude.{ℕ, ◌⊎◌, Bool, List}
use Rattle.read_metadata.specs.read_lexer.declared.line.Line.{Line}
use Rattle.read_program.specs.declared.program.Program.{Program}
use Rattle.selftest_command.specs.run_command.Program.{HaveRegisters, HasVirtualRegister, HasLargeFrame, HasLargeSection}
use Rattle.cli.specs.Command.{IsCommand}
use Rattle.cli.specs.declared.command.Command.{Command}
use Rattle.cli.specs.declared.command.PassPipeline.{PassPipeline}
use Rattle.cli.specs.declared.fault.Fault.{Fault}
use Rattle.cli.specs.declared.fault.Fault.TheVariants.{Usage, Read, TooLong, Refused, NoFunction, UnknownFunction}
use Rattle.cli.specs.declared.fault.Fault.TheVariants.{NoRegister, FrameTooLarge, SymbolName, SectionTooLarge, Write, Memory}
use Rattle.tool_driver.specs.Compiled.{plan_steps}
use Rattle.tool_driver.specs.Run.{AreCommand, HasRead, IsCutOff}
use Rattle.tool_driver.specs.Refusals.{IsReader, IsRefusedAt, HasNoFunction, RefusesProgram, RefusesLines, IsTooLong, Refuses}
use Rattle.tool_driver.specs.Stream.{Change, MetFault}

-- ---- reading

-- the faults for which no program with a function is read
abbrev pub RefusesText : (linked : Bool) → (text : List ℕ) → Fault → Type 0
RefusesText linked text (Refused r) = IsRefusedAt linked text r
RefusesText linked text Memory = Unit {0}
RefusesText linked text NoFunction = HasNoFunction linked text
RefusesText linked text UnknownFunction = ⊥
RefusesText linked text NoRegister = ⊥
RefusesText linked text FrameTooLarge = ⊥
RefusesText linked text SymbolName = ⊥
RefusesText linked text SectionTooLarge = ⊥
RefusesText linked text Usage = ⊥
RefusesText linked text Read = ⊥
RefusesText linked text TooLong = ⊥
RefusesText linked text Write = ⊥

-- the input was read, but it is no program with a function, for this fault
pub record RefusesInput (linked : Bool) (input : Change) (fault : Fault) : Type 0 where
  pub text : List ℕ
  pub read : HasRead input text
  pub refused : RefusesText linked text fault

-- the faults for which no program is read from an input
abbrev pub HasReadNone : (linked : Bool) → (input : Change) → Fault → Type 0
HasReadNone linked input Read = MetFault input
HasReadNone linked input Memory = Unit {0}
HasReadNone linked input TooLong = IsTooLong input
HasReadNone linked input (Refused r) = RefusesInput linked input (Refused r)
HasReadNone linked input NoFunction = RefusesInput linked input NoFunction
HasReadNone linked input UnknownFunction = ⊥
HasReadNone linked input NoRegister = ⊥
HasReadNone linked input FrameTooLarge = ⊥
HasReadNone linked input SymbolName = ⊥
HasReadNone linked input SectionTooLarge = ⊥
HasReadNone linked input Usage = ⊥
HasReadNone linked input Write = ⊥

-- ---- compiling

-- the faults for which a program has no output by a plan
abbrev pub RefusesToCompile : PassPipeline → Program → Fault → Type 0
RefusesToCompile plan program NoRegister = HasVirtualRegister plan.reserve program.functions
RefusesToCompile plan program FrameTooLarge = HaveRegisters plan.reserve program.functions × HasLargeFrame (plan_steps plan) program.functions
RefusesToCompile plan program SectionTooLarge = HasLargeSection (plan_steps plan) program
RefusesToCompile plan program Memory = Unit {0}
RefusesToCompile plan program SymbolName = ⊥
RefusesToCompile plan program (Refused r) = ⊥
RefusesToCompile plan program NoFunction = ⊥
RefusesToCompile plan program UnknownFunction = ⊥
RefusesToCompile plan program Usage = ⊥
RefusesToCompile plan program Read = ⊥
RefusesToCompile plan program TooLong = ⊥
RefusesToCompile plan program Write = ⊥

-- the faults of a command on a program
abbrev pub RefusesToWrite : Command → Program → Fault → Type 0
RefusesToWrite command program UnknownFunction = RefusesProgram command program UnknownFunction
RefusesToWrite command program NoRegister = RefusesProgram command program NoRegister
RefusesToWrite command program FrameTooLarge = RefusesProgram command program FrameTooLarge
RefusesToWrite command program SymbolName = RefusesProgram command program SymbolName
RefusesToWrite command program SectionTooLarge = RefusesProgram command program SectionTooLarge
RefusesToWrite command program Memory = Unit {0}
RefusesToWrite command program (Refused r) = ⊥
RefusesToWrite command program NoFunction = ⊥
RefusesToWrite command program Usage = ⊥
RefusesToWrite command program Read = ⊥
RefusesToWrite command program TooLong = ⊥
RefusesToWrite command program Write = ⊥

-- the faults of a command on a program with an IR block of these lines
abbrev pub RefusesToWriteOf : Command → List Line → Program → Fault → Type 0
RefusesToWriteOf command lines program fault = RefusesToWrite command program fault ⊎ RefusesLines command lines program fault

-- ---- a whole run

-- the faults of a command before it writes: want of memory; or, for a command with an input, a failed read or a refusal
abbrev pub ReadingEnds : Command → (input : Change) → Fault → Type 0
ReadingEnds command input Read = IsReader command × MetFault input
ReadingEnds command input Memory = Unit {0}
ReadingEnds command input TooLong = Refuses command input TooLong
ReadingEnds command input (Refused r) = Refuses command input (Refused r)
ReadingEnds command input NoFunction = Refuses command input NoFunction
ReadingEnds command input UnknownFunction = Refuses command input UnknownFunction
ReadingEnds command input NoRegister = Refuses command input NoRegister
ReadingEnds command input FrameTooLarge = Refuses command input FrameTooLarge
ReadingEnds command input SymbolName = Refuses command input SymbolName
ReadingEnds command input SectionTooLarge = Refuses command input SectionTooLarge
ReadingEnds command input Usage = ⊥
ReadingEnds command input Write = ⊥

-- the words are a command, which had this fault before it wrote anything
pub record ReadingEnded (words : List (List ℕ)) (input : Change) (fault : Fault) : Type 0 where
  pub command : Command
  pub asked : IsCommand words command
  pub ended : ReadingEnds command input fault

-- what holds if a run ended in this fault
abbrev pub Explains : (words : List (List ℕ)) → (input output : Change) → Fault → Type 0
Explains words input output Usage = AreCommand words → ⊥
Explains words input output Write = IsCutOff words input output × MetFault output
Explains words input output Read = ReadingEnded words input Read
Explains words input output Memory = Unit {0}
Explains words input output TooLong = ReadingEnded words input TooLong
Explains words input output (Refused r) = ReadingEnded words input (Refused r)
Explains words input output NoFunction = ReadingEnded words input NoFunction
Explains words input output UnknownFunction = ReadingEnded words input UnknownFunction
Explains words input output NoRegister = ReadingEnded words input NoRegister
Explains words input output FrameTooLarge = ReadingEnded words input FrameTooLarge
Explains words input output SymbolName = ReadingEnded words input SymbolName
Explains words input output SectionTooLarge = ReadingEnded words input SectionTooLarge
