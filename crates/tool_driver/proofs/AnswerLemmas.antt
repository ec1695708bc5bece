-- What a command writes of an input, by what it writes of the program that was read.
use Rattle.std.specs.Prelude.{Option, Some, None, Result, Ok, Err, IfOk, IfErr, Bool, true}
use Rattle.std.proofs.Common.{◌≡◌, ◌⊎◌, ℕ, List, [], refl, sym, subst, inl, inr}
use Rattle.read_metadata.specs.read_lexer.declared.line.Line.{Line}
use Rattle.read_program.specs.declared.program.Program.{Program}
use Rattle.cli.specs.declared.command.Command.{Command}
use Rattle.cli.specs.declared.command.CompilePlan.{CompilePlan}
use Rattle.cli.specs.declared.command.LinkableForm.{LinkableForm}
use Rattle.cli.specs.declared.command.ObjectPlan.{ObjectPlan}
use Rattle.cli.specs.declared.command.PassPipeline.{PassPipeline}
use Rattle.cli.specs.declared.command.RunPlan.{RunPlan}
use Rattle.cli.specs.declared.command.TestPlan.{TestPlan}
use Rattle.cli.specs.declared.command.Command.TheVariants.{Compile, Listing, Report, Object, Run, Strip, SelfTest}
use Rattle.cli.specs.declared.fault.Fault.{Fault}
use Rattle.cli.specs.declared.fault.Fault.TheVariants.{Usage, Read, TooLong, Refused, NoFunction, UnknownFunction}
use Rattle.cli.specs.declared.fault.Fault.TheVariants.{NoRegister, FrameTooLarge, SymbolName, SectionTooLarge, Write, Memory}
use Rattle.selftest_command.specs.run_command.Source.{IsUnknown}
use Rattle.selftest_command.specs.run_command.Program.{ExposedSteps, HasLargeSection, HasLargeFrameSection, HasLargeInlinedSection}
use Rattle.tool_driver.specs.Answer.{is_linked, block_lines, Answers, IsTestText}
use Rattle.tool_driver.specs.Run.{HasReadProgram, HasReadLines, AnswersRead, AnswersInput}
use Rattle.tool_driver.specs.Refusals.{IsReader, IsNamed, plan_of, RefusesProgram, no_register, frame_too_large, section_too_large, frame_section_too_large}
use Rattle.tool_driver.specs.Refusals.{inlined_section_too_large}
use Rattle.tool_driver.specs.Refusals.{RefusesLines, linkable_too_large, too_long, refused_at, no_function, refused_program, refused_lines}
use Rattle.tool_driver.specs.steps.Ends.{RefusesToCompile, RefusesToWrite, RefusesToWriteOf, HasReadNone, ReadingEnds}
use Rattle.tool_driver.specs.Stream.{Change, IsUnread}
use Rattle.tool_driver.specs.Compiled.{plan_steps, IsObjectFile, IsLinkableFileOf, IsObjectAsked}

-- ---- a program was read

-- what a command writes of it
read_answers : (command : Command) (input : Change) (program : Program) (read : HasReadProgram (is_linked command) input program) (output : List ℕ) →
    Answers command (block_lines (is_linked command) read.text) program output → AnswersRead command input output
read_answers command input program read output answers =
    record { text = read.text; read = read.read; answers = record { program = program; has = read.has; answers = answers } }

-- why it writes nothing of the program
held_back : (command : Command) → IsReader command → (input : Change) (program : Program) → HasReadProgram (is_linked command) input program →
    (fault : Fault) →
    RefusesToWrite command program fault → ReadingEnds command input fault
held_back command reads input program read UnknownFunction refused = refused_program program reads read refused
held_back command reads input program read NoRegister refused = refused_program program reads read refused
held_back command reads input program read FrameTooLarge refused = refused_program program reads read refused
held_back command reads input program read SymbolName refused = refused_program program reads read refused
held_back command reads input program read SectionTooLarge refused = refused_program program reads read refused
held_back command reads input program read Memory refused = tt
held_back command reads input program read (Refused r) refused = absurd refused
held_back command reads input program read NoFunction refused = absurd refused
held_back command reads input program read Usage refused = absurd refused
held_back command reads input program read Read refused = absurd refused
held_back command reads input program read TooLong refused = absurd refused
held_back command reads input program read Write refused = absurd refused

-- ---- none was read

pub read_none : (command : Command) → IsReader command → (input : Change) (fault : Fault) → HasReadNone (is_linked command) input fault →
    ReadingEnds command input fault
read_none command reads input Read none = (reads, none)
read_none command reads input Memory none = tt
read_none command reads input TooLong none = too_long reads none
read_none command reads input (Refused r) none = refused_at none.text r reads none.read none.refused
read_none command reads input NoFunction none = no_function none.text reads none.read none.refused
read_none command reads input UnknownFunction none = absurd none
read_none command reads input NoRegister none = absurd none
read_none command reads input FrameTooLarge none = absurd none
read_none command reads input SymbolName none = absurd none
read_none command reads input SectionTooLarge none = absurd none
read_none command reads input Usage none = absurd none
read_none command reads input Write none = absurd none

-- ---- the commands that compile

-- a program that can't be compiled is refused
pub by_compiling : (command : Command) (program : Program) (plan : PassPipeline) → plan_of command ≡ Some plan → IsNamed command program →
    (fault : Fault) → RefusesToCompile plan program fault → RefusesToWrite command program fault
by_compiling command program plan is named NoRegister refused = no_register plan is named refused
by_compiling command program plan is named FrameTooLarge refused = frame_too_large plan is named refused.0 refused.1
by_compiling command program plan is named SectionTooLarge refused = section_too_large plan is named refused
by_compiling command program plan is named Memory refused = tt
by_compiling command program plan is named SymbolName refused = absurd refused
by_compiling command program plan is named UnknownFunction refused = absurd refused
by_compiling command program plan is named (Refused r) refused = refused
by_compiling command program plan is named NoFunction refused = refused
by_compiling command program plan is named Usage refused = refused
by_compiling command program plan is named Read refused = refused
by_compiling command program plan is named TooLong refused = refused
by_compiling command program plan is named Write refused = refused

pub compile_named : (asked : CompilePlan) (program : Program) → IsNamed (Compile asked) program
compile_named asked program run same unknown = absurd cc

-- a section is too large, one that is there only if it is asked for among them
abbrev pub IsLargeAsAsked : CompilePlan → ExposedSteps → Program → Type 0
IsLargeAsAsked asked steps program = HasLargeSection steps program
    ⊎ (((asked.frame ≡ true) × HasLargeFrameSection steps program) ⊎ ((asked.inline ≡ true) × HasLargeInlinedSection steps program))

pub large_as_asked : (asked : CompilePlan) (program : Program) → IsLargeAsAsked asked (plan_steps asked.plan) program →
    RefusesProgram (Compile asked) program SectionTooLarge
large_as_asked asked program large = elim large [
  | inl section ↦ section_too_large asked.plan refl (compile_named asked program) section
  | inr asked_for ↦
      elim asked_for [
        | inl frame ↦ frame_section_too_large asked refl frame.0 frame.1
        | inr inline ↦ inlined_section_too_large asked refl inline.0 inline.1
      ]
]

module _ (plan : PassPipeline) (program : Program) where
  listing_named : IsNamed (Listing plan) program
  listing_named run same unknown = absurd cc

  report_named : IsNamed (Report plan) program
  report_named run same unknown = absurd cc

pub object_named : (asked : ObjectPlan) (program : Program) → IsNamed (Object asked) program
object_named asked program run same unknown = absurd cc

-- a run compiles a program that has the function
pub run_named : (run : RunPlan) (program : Program) → (IsUnknown run.name program.functions → ⊥) → IsNamed (Run run) program
run_named run program known other same unknown =
    let one : run ≡ other = cc in
    known (subst (λ (r : RunPlan). IsUnknown r.name program.functions) (sym one) unknown)

module _ (asked : CompilePlan) (input : Change) (program : Program) (read : HasReadProgram asked.plan.linked input program) where
  pub compile_ok : (r : Result (List ℕ) Fault) → IfOk r (Answers (Compile asked) [] program) → IfOk r (AnswersInput (Compile asked) input)
  compile_ok (Ok output) answers = read_answers (Compile asked) input program read output answers
  compile_ok (Err fault) answers = tt

  pub compile_err : (r : Result (List ℕ) Fault) → IfErr r (RefusesToWrite (Compile asked) program) → IfErr r (ReadingEnds (Compile asked) input)
  compile_err (Ok output) refused = tt
  compile_err (Err fault) refused = held_back (Compile asked) tt input program read fault refused

module _ (plan : PassPipeline) (input : Change) (program : Program) (read : HasReadProgram plan.linked input program) where
  pub listing_ok : (r : Result (List ℕ) Fault) → IfOk r (Answers (Listing plan) [] program) → IfOk r (AnswersInput (Listing plan) input)
  listing_ok (Ok output) answers = read_answers (Listing plan) input program read output answers
  listing_ok (Err fault) answers = tt

  pub listing_err : (r : Result (List ℕ) Fault) → IfErr r (RefusesToCompile plan program) → IfErr r (ReadingEnds (Listing plan) input)
  listing_err (Ok output) refused = tt
  listing_err (Err fault) refused =
      held_back (Listing plan) tt input program read fault
      (by_compiling (Listing plan) program plan refl (listing_named plan program) fault refused)

  pub report_ok : (r : Result (List ℕ) Fault) → IfOk r (Answers (Report plan) [] program) → IfOk r (AnswersInput (Report plan) input)
  report_ok (Ok output) answers = read_answers (Report plan) input program read output answers
  report_ok (Err fault) answers = tt

  pub report_err : (r : Result (List ℕ) Fault) → IfErr r (RefusesToCompile plan program) → IfErr r (ReadingEnds (Report plan) input)
  report_err (Ok output) refused = tt
  report_err (Err fault) refused =
      held_back (Report plan) tt input program read fault
      (by_compiling (Report plan) program plan refl (report_named plan program) fault refused)

module _ (asked : ObjectPlan) (input : Change) (program : Program) (read : HasReadProgram asked.plan.linked input program) where
  pub object_ok : asked.form ≡ None → (r : Result (List ℕ) Fault) → IfOk r (IsObjectFile (plan_steps asked.plan) program)
      → IfOk r (AnswersInput (Object asked) input)
  object_ok plain (Ok output) file =
      read_answers (Object asked) input program read output
      (subst (λ (f : Option LinkableForm). IsObjectAsked f asked.plan (block_lines asked.plan.linked read.text) program output) (sym plain) file)
  object_ok plain (Err fault) file = tt

  pub object_err : (r : Result (List ℕ) Fault) → IfErr r (RefusesToWrite (Object asked) program) → IfErr r (ReadingEnds (Object asked) input)
  object_err (Ok output) refused = tt
  object_err (Err fault) refused = held_back (Object asked) tt input program read fault refused

module _ (asked : ObjectPlan) (form : LinkableForm) (is : asked.form ≡ Some form) (input : Change) (lines : List Line) (program : Program)
    (read : HasReadLines asked.plan.linked input lines program) where
  pub linkable_ok : (r : Result (List ℕ) Fault) → IfOk r (IsLinkableFileOf form asked.plan lines program) → IfOk r (AnswersInput (Object asked) input)
  linkable_ok (Ok output) file =
      read_answers (Object asked) input program (record { text = read.text; read = read.read; has = read.has }) output
      (subst (λ (f : Option LinkableForm). IsObjectAsked f asked.plan (block_lines asked.plan.linked read.text) program output) (sym is)
      (subst (λ (ls : List Line). IsLinkableFileOf form asked.plan ls program output) read.of file))
  linkable_ok (Err fault) file = tt

  by_lines : {fault : Fault} → RefusesLines (Object asked) lines program fault → ReadingEnds (Object asked) input fault
  by_lines (linkable_too_large other shape same of large) = refused_lines lines program tt read (linkable_too_large other shape same of large)

  pub linkable_err : (r : Result (List ℕ) Fault) → IfErr r (RefusesToWriteOf (Object asked) lines program) → IfErr r (ReadingEnds (Object asked) input)
  linkable_err (Ok output) refused = tt
  linkable_err (Err fault) refused = elim refused [
    | inl program_refused ↦
        held_back (Object asked) tt input program (record { text = read.text; read = read.read; has = read.has }) fault program_refused
    | inr lines_refused ↦ by_lines lines_refused
  ]

module _ (run : RunPlan) (input : Change) (program : Program) (read : HasReadProgram run.plan.linked input program) where
  pub run_ok : (r : Result (List ℕ) Fault) → IfOk r (Answers (Run run) [] program) → IfOk r (AnswersInput (Run run) input)
  run_ok (Ok output) answers = read_answers (Run run) input program read output answers
  run_ok (Err fault) answers = tt

  pub run_err : (r : Result (List ℕ) Fault) → IfErr r (RefusesToWrite (Run run) program) → IfErr r (ReadingEnds (Run run) input)
  run_err (Ok output) refused = tt
  run_err (Err fault) refused = held_back (Run run) tt input program read fault refused

-- ---- the others

pub strip_ok : (linked : Bool) (input : Change) (program : Program) (output : List ℕ) → HasReadProgram linked input program →
    Answers (Strip linked) [] program output → AnswersInput (Strip linked) input output
strip_ok linked input program output read answers = read_answers (Strip linked) input program read output answers

pub memory_ends : (command : Command) (input : Change) (fault : Fault) → fault ≡ Memory → ReadingEnds command input fault
memory_ends command input Memory is = tt
memory_ends command input UnknownFunction is = absurd cc
memory_ends command input NoRegister is = absurd cc
memory_ends command input FrameTooLarge is = absurd cc
memory_ends command input SymbolName is = absurd cc
memory_ends command input SectionTooLarge is = absurd cc
memory_ends command input (Refused r) is = absurd cc
memory_ends command input NoFunction is = absurd cc
memory_ends command input Usage is = absurd cc
memory_ends command input Read is = absurd cc
memory_ends command input TooLong is = absurd cc
memory_ends command input Write is = absurd cc

-- ---- self-tests

module _ (test : TestPlan) (input : Change) where
  pub test_ok : IsUnread input → (r : Result (List ℕ) Fault) → IfOk r (IsTestText test) → IfOk r (AnswersInput (SelfTest test) input)
  test_ok unread (Ok output) is = (unread, is)
  test_ok unread (Err fault) is = tt

  pub test_err : (r : Result (List ℕ) Fault) → IfErr r (λ f. f ≡ Memory) → IfErr r (ReadingEnds (SelfTest test) input)
  test_err (Ok output) is = tt
  test_err (Err fault) is = memory_ends (SelfTest test) input fault is
