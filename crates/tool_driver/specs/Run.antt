-- What a run of the tool did to its input and its output.
use Rattle.std.specs.Prelude.{◌≡◌, ℕ, ◌≤◌, Bool, false, List, length, All, Option, Some, None, IfSome, is_some}
use Rattle.listing_text.specs.declared.output.Output.{Output}
use Rattle.listing_text.specs.Shown.{OfShown}
use Rattle.compile_output_proof.specs.listing_proof.Laws.{inlined_in}
use Rattle.read_metadata.specs.read_lexer.declared.line.Line.{Line}
use Rattle.read_program.specs.declared.program.Program.{Program}
use Rattle.cli.specs.declared.command.Command.{Command}
use Rattle.cli.specs.declared.command.Command.TheVariants.{Compile, Listing, Report, Object, Run, Strip, Gen, SelfTest}
use Rattle.cli.specs.declared.command.LinkableForm.{LinkableForm}
use Rattle.cli.specs.declared.command.ObjectPlan.{ObjectPlan}
use Rattle.cli.specs.declared.command.PassPipeline.{PassPipeline}
use Rattle.cli.specs.declared.command.RunPlan.{RunPlan}
use Rattle.cli.specs.declared.command.TestPlan.{TestPlan}
use Rattle.cli.specs.Command.{IsCommand}
use Rattle.report_command.specs.ProgramReport.{IsReportText}
use Rattle.selftest_command.specs.run_command.Source.{IsRunOfProgram}
use Rattle.gen_text.specs.GeneratedText.{generated_text}
use Rattle.readback_strip.specs.readback_functions.Bytes.{AreBytes}
use Rattle.readback_strip.specs.Text.{stripped_program}
use Rattle.readback_strip.specs.strip_command.StripText.{stripped_text}
use Rattle.tool_driver.specs.Limits.{INPUT_LIMIT}
use Rattle.kept_program.specs.Suspended.{AllHold}
use Rattle.linkable_placement.specs.Placement.{Placement, Fits, IsPlaced}
use Rattle.linkable_program.specs.Program.{IsLinkableOf}
use Rattle.linkable_theorem.specs.Tables.{Guarantee}
use Rattle.tool_driver.specs.Compiled.{plan_steps, flags_of, IsPlainOutputOf, IsCompiledBy}
use Rattle.tool_driver.specs.Answer.{block_lines, HasFunctions, AnswersText, IsTestText}
use Rattle.frame_theorem.specs.compile_theorem.OutputProperties.{AreLaidOut, Promises, IsExact, ListsPassed}
use Rattle.frame_theorem.specs.compile_theorem.Source.{PassedFunction}
use Rattle.frame_theorem.specs.compile_theorem.Words.{HaveWords}
use Rattle.object_command.specs.Object.{IsObjectOf}
use Rattle.selftest_command.specs.run_command.Runs.{Compilation}
use Rattle.selftest_command.specs.run_command.Program.{ExposedSteps, sources_of, ArePassed, HasSections, IsMadeBy, names_of}
use Rattle.compile_output_proof.specs.Inlined.{TellsInlinedLines}
use Rattle.tool_driver.specs.Lines.{GivesLines}
use Rattle.tool_driver.specs.FurtherPromises.{AllGiveBack, AllStopWell, FramesUnwind, AllListKept}
use Rattle.tool_driver.specs.Stream.{Change, IsUnread, IsReadWhole, IsWrittenWhole, IsWrittenInPart}

-- the words are a command
abbrev pub AreCommand : (words : List (List ℕ)) → Type 0
AreCommand words = (command : Command) × IsCommand words command

-- the input was read to its end, is within the limit, and consists of these bytes
pub record HasRead (input : Change) (text : List ℕ) : Type 0 where
  pub whole : IsReadWhole input text
  pub within : length text ≤ INPUT_LIMIT
  pub bytes : AreBytes text

-- the input was read as this program, which has a function; `linked` is whether the linked language is read
pub record HasReadProgram (linked : Bool) (input : Change) (program : Program) : Type 0 where
  pub text : List ℕ
  pub read : HasRead input text
  pub has : HasFunctions linked text program

-- the same, and its IR block has these lines
pub record HasReadLines (linked : Bool) (input : Change) (lines : List Line) (program : Program) : Type 0 where
  pub text : List ℕ
  pub read : HasRead input text
  pub has : HasFunctions linked text program
  pub of : lines ≡ block_lines linked text

-- the input was read, and this is what the command writes for it
pub record AnswersRead (command : Command) (input : Change) (output : List ℕ) : Type 0 where
  pub text : List ℕ
  pub read : HasRead input text
  pub answers : AnswersText command text output

-- what a command writes: for the input that it read, or without reading, a generated function or the self-test of one
abbrev pub AnswersInput : Command → (input : Change) → (output : List ℕ) → Type 0
AnswersInput (Compile plan) input output = AnswersRead (Compile plan) input output
AnswersInput (Listing plan) input output = AnswersRead (Listing plan) input output
AnswersInput (Report plan) input output = AnswersRead (Report plan) input output
AnswersInput (Object asked) input output = AnswersRead (Object asked) input output
AnswersInput (Run run) input output = AnswersRead (Run run) input output
AnswersInput (Strip linked) input output = AnswersRead (Strip linked) input output
AnswersInput (Gen g) input output = IsUnread input × (output ≡ generated_text g.number g.blocks)
AnswersInput (SelfTest test) input output = IsUnread input × IsTestText test output

-- the words are a command, and this is what it writes
pub record Accepts (words : List (List ℕ)) (input : Change) (output : List ℕ) : Type 0 where
  pub command : Command
  pub asked : IsCommand words command
  pub answers : AnswersInput command input output

-- the whole output of the command was written, without a fault
pub record Finishes (words : List (List ℕ)) (input output : Change) : Type 0 where
  pub text : List ℕ
  pub accepted : Accepts words input text
  pub written : IsWrittenWhole output text

-- a prefix of the output of the command was written
pub record IsCutOff (words : List (List ℕ)) (input output : Change) : Type 0 where
  pub text : List ℕ
  pub accepted : Accepts words input text
  pub front : IsWrittenInPart output text

-- the input was read as a program with a function, bytes were written, and `P` holds of every output that they are the text of (there is one)
pub record HasWritten (linked : Bool) (P : Program → Output → Type 0) (input output : Change) : Type 0 where
  pub text : List ℕ
  pub read : HasRead input text
  pub program : Program
  pub has : HasFunctions linked text program
  pub bytes : List ℕ
  pub written : IsWrittenWhole output bytes
  pub shown : OfShown (inlined_in program.meta) (P program) bytes

-- The main theorem, for each function in the input, in the language that is read, and the bytes written: from every start, for every script of call answers
-- and every number of steps, the machine on the code in the bytes is at the source position that their lines say, with the source's events and result, and
-- each location in their location lists holds the variable's newest assignment.
abbrev pub KeepsHeadline : (linked : Bool) → (input output : Change) → Type 0
KeepsHeadline linked input output = HasWritten linked (λ p. Promises (sources_of p.functions)) input output

-- at each return of a function, the registers that it has to preserve have the values from its start
abbrev pub KeepsRegisters : (linked : Bool) → (input output : Change) → Type 0
KeepsRegisters linked input output = HasWritten linked (λ p. AllGiveBack (sources_of p.functions)) input output

-- the machine on a function's code stops only where its run ends, or where it waits for the answer of a call
abbrev pub StopsAtReturns : (linked : Bool) → (input output : Change) → Type 0
StopsAtReturns linked input output = HasWritten linked (λ p. AllStopWell (sources_of p.functions)) input output

-- At each line that the machine on a function's code comes to, the section `.debug_frame`, if it was written, unwinds to the function's start: by its rules the
-- stack pointer, the return address and the callee-saved registers have their values there.
abbrev pub WroteUnwinding : (linked : Bool) → (input output : Change) → Type 0
WroteUnwinding linked input output = HasWritten linked (λ p. FramesUnwind (sources_of p.functions)) input output

-- At the address of each byte of a listed line, the location lists have for each part of a variable the wanted location, and none exactly if none is
-- wanted. They have none at any other address.
abbrev pub WroteExactly : (linked : Bool) → (input output : Change) → Type 0
WroteExactly linked input output = HasWritten linked (λ p. IsExact) input output

-- while a location keeps the value of a debug value, the location lists don't leave that part of the variable without a location
abbrev pub WroteKept : (linked : Bool) → (input output : Change) → Type 0
WroteKept linked input output = HasWritten linked (λ p. AllListKept) input output

-- The output lists the functions in the input, in order: each with its name, stack objects and variables, and with its lines contiguous from its first
-- address to its end. Location lists are numbered through all functions, and variables have their names in the metadata.
abbrev pub WroteLaidOut : (linked : Bool) → (input output : Change) → Type 0
WroteLaidOut linked input output = HasWritten linked (λ p. AreLaidOut (names_of p.meta) (sources_of p.functions)) input output

-- each line with an address has the encoding of its instruction at that address
abbrev pub WroteWords : (linked : Bool) → (input output : Change) → Type 0
WroteWords linked input output = HasWritten linked (λ p. HaveWords) input output

-- Each function that was read was transformed by these passes, and the result, which simulates it, is the one that is compiled and listed, with its frame
-- and its substitutions. The `.debug_info`, abbreviation and line sections are the encodings of the program's unit and line table, and `.debug_frame`, if
-- there is one, that of the call frame information of the machine code; the line table has for each byte of machine code its line of the source, and no row
-- for another address. Where inlined functions are asked for, the range list of an instance covers exactly the listed lines that were inlined through its call.
pub record ShowsPassed (steps : ExposedSteps) (p : Program) (o : Output) : Type 0 where
  pub functions : List PassedFunction
  pub passed : ArePassed p.meta p.functions functions
  pub made : All (IsMadeBy steps) functions
  pub lists : ListsPassed functions o
  pub sections : HasSections p.meta functions o
  pub rows : GivesLines p.meta functions o
  pub inlined : IfSome o.ranges (TellsInlinedLines p functions o)

-- the sections have `.debug_frame` exactly if it is asked for
abbrev pub WroteFrameSection : (linked with_frame : Bool) → (input output : Change) → Type 0
WroteFrameSection linked with_frame input output = HasWritten linked (λ p o. is_some o.frame ≡ with_frame) input output

-- the sections have `.debug_rnglists` exactly if inlined functions are asked for
abbrev pub WroteRangesSection : (linked with_inline : Bool) → (input output : Change) → Type 0
WroteRangesSection linked with_inline input output = HasWritten linked (λ p o. is_some o.ranges ≡ with_inline) input output

-- the whole text of one such output was written
abbrev pub WrotePassed : (linked : Bool) → ExposedSteps → (input output : Change) → Type 0
WrotePassed linked steps input output = HasWritten linked (ShowsPassed steps) input output

-- the input was read as a program with a function, and the bytes written are the text `Is` requires for it
pub record WroteText (linked : Bool) (Is : Program → (text : List ℕ) → Type 0) (input output : Change) : Type 0 where
  pub text : List ℕ
  pub read : HasRead input text
  pub program : Program
  pub has : HasFunctions linked text program
  pub bytes : List ℕ
  pub is : Is program bytes
  pub written : IsWrittenWhole output bytes

-- An output of a program after these steps keeps the promises of what `compile` writes: those of its runs, of its call frame information, of its
-- location lists, of its layout, of its words and of the functions that it shows.
pub record KeepsPromises (steps : ExposedSteps) (p : Program) (o : Output) : Type 0 where
  pub headline : Promises (sources_of p.functions) o
  pub callee_saved : AllGiveBack (sources_of p.functions) o
  pub stops : AllStopWell (sources_of p.functions) o
  pub unwinds : FramesUnwind (sources_of p.functions) o
  pub exact : IsExact o
  pub kept : AllListKept o
  pub laid_out : AreLaidOut (names_of p.meta) (sources_of p.functions) o
  pub words : HaveWords o
  pub passed : ShowsPassed steps p o

-- The bytes are the object of an output of the program after these steps, without `.debug_frame` and inlined functions, which keeps the promises.
pub record IsKeptObject (steps : ExposedSteps) (p : Program) (bytes : List ℕ) : Type 0 where
  pub made : Output
  pub is : IsPlainOutputOf steps p made
  pub promises : KeepsPromises steps p made
  pub object : IsObjectOf made bytes

-- The bytes are the object that a linker places of the program, compiled by a plan to an output that keeps the promises. Wherever a linker places it, its code
-- runs in the environment of the placement, and its debug sections are those of the same entries, rows and functions, moved there. The rows say of each address
-- where it comes from, and where prologues end, and the call frame information unwinds. Its location lists are true in suspended frames too, whatever the callee
-- did.
pub record IsKeptLinkable (form : LinkableForm) (plan : PassPipeline) (lines : List Line) (p : Program) (bytes : List ℕ) : Type 0 where
  pub compilation : Compilation
  pub by_plan : IsCompiledBy plan p compilation
  pub promises : KeepsPromises (plan_steps plan) p compilation.output
  pub is : IsLinkableOf lines p compilation form.frame (flags_of form) bytes
  pub placed : (place : Placement) → Fits place compilation.output is.loclists is.tables → IsPlaced place compilation.output is.loclists is.tables
  pub tables : Guarantee lines p compilation form.frame is.tables is.are
  pub suspended : AllHold compilation.output (sources_of p.functions) compilation.functions compilation.output.functions is.lists.lists

abbrev pub IsKeptAsked : Option LinkableForm → PassPipeline → List Line → Program → (bytes : List ℕ) → Type 0
IsKeptAsked None plan lines p bytes = IsKeptObject (plan_steps plan) p bytes
IsKeptAsked (Some form) plan lines p bytes = IsKeptLinkable form plan lines p bytes

-- the object of the functions after the plan's passes was written, in the form that is asked for
pub record WroteObject (asked : ObjectPlan) (input output : Change) : Type 0 where
  pub text : List ℕ
  pub read : HasRead input text
  pub program : Program
  pub has : HasFunctions asked.plan.linked text program
  pub bytes : List ℕ
  pub is : IsKeptAsked asked.form asked.plan (block_lines asked.plan.linked text) program bytes
  pub written : IsWrittenWhole output bytes

-- the report of the functions after the plan's passes was written
abbrev pub WroteReport : PassPipeline → (input output : Change) → Type 0
WroteReport plan input output = WroteText plan.linked (IsReportText plan.reserve plan.passes) input output

-- the text of the requested run was written
abbrev pub WroteRun : RunPlan → (input output : Change) → Type 0
WroteRun run input output =
    WroteText run.plan.linked (λ p. IsRunOfProgram (plan_steps run.plan) p run.name run.steps run.symbols run.arguments run.answers) input output

-- the text of the requested self-test was written
pub record WroteTest (test : TestPlan) (output : Change) : Type 0 where
  pub text : List ℕ
  pub is : IsTestText test text
  pub written : IsWrittenWhole output text

-- What was written can be read: as the program without debug items, for which `strip` writes the same text again.
pub record IsReadAgain (program : Program) : Type 0 where
  pub reads : HasFunctions false (stripped_text program.functions) (stripped_program program)
  pub again : AnswersText (Strip false) (stripped_text program.functions) (stripped_text program.functions)

-- The input was read, and its functions were written without debug items. Where the linked language isn't read, what was written can be read.
pub record WroteStripped (linked : Bool) (input output : Change) : Type 0 where
  pub text : List ℕ
  pub read : HasRead input text
  pub program : Program
  pub has : HasFunctions linked text program
  pub written : IsWrittenWhole output (stripped_text program.functions)
  pub again : linked ≡ false → IsReadAgain program
