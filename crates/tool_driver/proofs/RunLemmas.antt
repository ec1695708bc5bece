-- Why a run ended as it did.
use Rattle.std.specs.Prelude.{Option, Some, Ok, is_some}
use Rattle.std.proofs.Common.{◌≡◌, ℕ, List, ◌+◌, ap, sym, ◌∙◌, refl, subst, arith}
use Rattle.base_io.specs.Told.{Takes, TakesCount}
use Rattle.base_io.proofs.ToldLemmas.{Takes-told, TakesCount-told}
use Rattle.cli.specs.declared.command.Command.{Command}
use Rattle.cli.specs.declared.command.CompilePlan.{CompilePlan}
use Rattle.cli.specs.declared.command.TestPlan.{TestPlan}
use Rattle.cli.specs.declared.command.Command.TheVariants.{Compile, Gen, SelfTest}
use Rattle.cli_numbers.specs.declared.generation.Generation.{Generation}
use Rattle.cli.specs.Command.{IsCommand}
use Rattle.cli.proofs.CommandWords.{one_command}
use Rattle.cli.specs.declared.fault.Fault.{Fault}
use Rattle.cli.specs.declared.fault.Fault.TheVariants.{Usage, Read, TooLong, Refused, NoFunction, UnknownFunction}
use Rattle.cli.specs.declared.fault.Fault.TheVariants.{NoRegister, FrameTooLarge, SymbolName, SectionTooLarge, Write, Memory}
use Rattle.cli.specs.declared.status.Status.TheVariants as status
use Rattle.cli.specs.Fault.{status_of, line_of}
use Rattle.read_refusal.specs.declared.first.Refusal.{Refusal}
use Rattle.read_program.specs.declared.program.Program.{Program}
use Rattle.read_program.specs.Program.{ReadsText}
use Rattle.listing_text.specs.declared.output.Output.{Output}
use Rattle.compile_output_proof.proofs.Functions.{printable}
use Rattle.selftest_command.specs.run_command.Program.{IsOutputOf}
use Rattle.readback_strip.proofs.read_proof.Texts.{programs_are_as_read}
use Rattle.tool_driver.specs.Limits.{INPUT_LIMIT}
use Rattle.tool_driver.specs.Compiled.{IsCompiledText, plan_steps}
use Rattle.read_metadata.specs.read_lexer.declared.line.Line.{Line}
use Rattle.tool_driver.specs.Answer.{is_linked, block_lines, HasFunctions}
use Rattle.tool_driver.specs.Run.{Finishes, HasWritten, AnswersRead, AnswersInput, HasRead, HasReadProgram, HasReadLines}
use Rattle.tool_driver.specs.Refusals.{HasNoFunction, IsReader, IsRefusedAt, IsAnswered, AreAnswered, RefusesProgram, RefusesLines, IsTooLong}
use Rattle.tool_driver.specs.Refusals.{Refuses, too_long, refused_at, no_function, refused_program, refused_lines, TellsRefusal, IsInputOf, IsAnswerable}
use Rattle.tool_driver.specs.Refusals.{generates, tests, answers}
use Rattle.tool_driver.specs.steps.Ends.{Explains, ReadingEnds, ReadingEnded}
use Rattle.tool_driver.specs.Stream.{Change, MetFault, IsReadWhole, IsWrittenWhole, IsTold}
use Rattle.tool_driver.proofs.OneProgram.{program_not_refused, programs_one}
use Rattle.tool_driver.proofs.Sentences.{of_shown}

-- ---- what is compiled

-- what was read and written by the command that compiles
record Compiled (plan : CompilePlan) (input output : Change) : Type 0 where
  text : List ℕ
  read : HasRead input text
  program : Program
  has : HasFunctions plan.plan.linked text program
  bytes : List ℕ
  compiles : IsCompiledText plan.frame plan.inline (plan_steps plan.plan) program bytes
  written : IsWrittenWhole output bytes

compiled : (plan : CompilePlan) (words : List (List ℕ)) (input output : Change) → Finishes words input output → IsCommand words (Compile plan) →
    Compiled plan input output
compiled plan words input output is asked =
    let accepted = is.accepted in
    let command : accepted.command ≡ Compile plan =
    one_command words accepted.command (Compile plan) accepted.asked asked in
    let answers : AnswersRead (Compile plan) input is.text = subst (λ (c : Command). AnswersInput c input is.text) command accepted.answers in
    record {
      text = answers.text;
      read = answers.read;
      program = answers.answers.program;
      has = answers.answers.has;
      bytes = is.text;
      compiles = answers.answers.answers;
      written = is.written;
    }

-- what holds of each output that is a compilation of a program that was read, with `.debug_frame` and `.debug_rnglists` exactly if they are asked for, holds
-- of what was written
pub has_written_as : (plan : CompilePlan) (P : Program → Output → Type 0) →
    ((program : Program) (o : Output) → IsOutputOf (plan_steps plan.plan) program o → is_some o.frame ≡ plan.frame → is_some o.ranges ≡ plan.inline
    → P program o) →
    (words : List (List ℕ)) (input output : Change) → Finishes words input output → IsCommand words (Compile plan) →
    HasWritten plan.plan.linked P input output
has_written_as plan P holds words input output finished asked =
    let is = compiled plan words input output finished asked in
    let read = programs_are_as_read plan.plan.linked is.text is.program is.has.reads in
    record {
      text = is.text;
      read = is.read;
      program = is.program;
      has = is.has;
      bytes = is.bytes;
      written = is.written;
      shown = of_shown printable plan.frame plan.inline (plan_steps plan.plan) is.program is.bytes read is.compiles (P is.program)
          (holds is.program is.compiles.output is.compiles.is is.compiles.frame is.compiles.ranges);
    }

-- the same of what holds of each such output, whatever sections are asked for
pub has_written : (plan : CompilePlan) (P : Program → Output → Type 0) →
    ((program : Program) (o : Output) → IsOutputOf (plan_steps plan.plan) program o → P program o) →
    (words : List (List ℕ)) (input output : Change) → Finishes words input output → IsCommand words (Compile plan) →
    HasWritten plan.plan.linked P input output
has_written plan P holds = has_written_as plan P (λ program o is framed ranged. holds program o is)

-- ---- the fault by the status

pub is_usage : (fault : Fault) → status_of fault ≡ status.Usage → fault ≡ Usage
is_usage Usage e = refl
is_usage Read e = cc
is_usage TooLong e = cc
is_usage (Refused r) e = cc
is_usage NoFunction e = cc
is_usage UnknownFunction e = cc
is_usage NoRegister e = cc
is_usage FrameTooLarge e = cc
is_usage SymbolName e = cc
is_usage SectionTooLarge e = cc
is_usage Write e = cc
is_usage Memory e = cc

pub is_read : (fault : Fault) → status_of fault ≡ status.ReadFault → fault ≡ Read
is_read Usage e = cc
is_read Read e = refl
is_read TooLong e = cc
is_read (Refused r) e = cc
is_read NoFunction e = cc
is_read UnknownFunction e = cc
is_read NoRegister e = cc
is_read FrameTooLarge e = cc
is_read SymbolName e = cc
is_read SectionTooLarge e = cc
is_read Write e = cc
is_read Memory e = cc

pub is_write : (fault : Fault) → status_of fault ≡ status.WriteFault → fault ≡ Write
is_write Usage e = cc
is_write Read e = cc
is_write TooLong e = cc
is_write (Refused r) e = cc
is_write NoFunction e = cc
is_write UnknownFunction e = cc
is_write NoRegister e = cc
is_write FrameTooLarge e = cc
is_write SymbolName e = cc
is_write SectionTooLarge e = cc
is_write Write e = refl
is_write Memory e = cc

pub is_memory : (fault : Fault) → status_of fault ≡ status.Memory → fault ≡ Memory
is_memory Usage e = cc
is_memory Read e = cc
is_memory TooLong e = cc
is_memory (Refused r) e = cc
is_memory NoFunction e = cc
is_memory UnknownFunction e = cc
is_memory NoRegister e = cc
is_memory FrameTooLarge e = cc
is_memory SymbolName e = cc
is_memory SectionTooLarge e = cc
is_memory Write e = cc
is_memory Memory e = refl

pub not_done : (fault : Fault) → status_of fault ≡ status.Done → ⊥
not_done Usage e = cc
not_done Read e = cc
not_done TooLong e = cc
not_done (Refused r) e = cc
not_done NoFunction e = cc
not_done UnknownFunction e = cc
not_done NoRegister e = cc
not_done FrameTooLarge e = cc
not_done SymbolName e = cc
not_done SectionTooLarge e = cc
not_done Write e = cc
not_done Memory e = cc

-- ---- refusals

tells : (words : List (List ℕ)) (input faults : Change) (fault : Fault) (ended : ReadingEnded words input fault) → Refuses ended.command input fault →
    IsTold faults (line_of fault) → TellsRefusal words input faults
tells words input faults fault ended refused told =
    record { command = ended.command; asked = ended.asked; fault = fault; refused = refused; told = told }

pub refusal : (words : List (List ℕ)) (input output faults : Change) (fault : Fault) → status_of fault ≡ status.Refused → Explains words input output fault →
    IsTold faults (line_of fault) → TellsRefusal words input faults
refusal words input output faults TooLong e ended told = tells words input faults TooLong ended ended.ended told
refusal words input output faults (Refused r) e ended told = tells words input faults (Refused r) ended ended.ended told
refusal words input output faults NoFunction e ended told = tells words input faults NoFunction ended ended.ended told
refusal words input output faults UnknownFunction e ended told = tells words input faults UnknownFunction ended ended.ended told
refusal words input output faults NoRegister e ended told = tells words input faults NoRegister ended ended.ended told
refusal words input output faults FrameTooLarge e ended told = tells words input faults FrameTooLarge ended ended.ended told
refusal words input output faults SymbolName e ended told = tells words input faults SymbolName ended ended.ended told
refusal words input output faults SectionTooLarge e ended told = tells words input faults SectionTooLarge ended ended.ended told
refusal words input output faults Usage e ended told = absurd cc
refusal words input output faults Read e ended told = absurd cc
refusal words input output faults Write e ended told = absurd cc
refusal words input output faults Memory e ended told = absurd cc

-- ---- what is answered isn't refused

-- the text that was read is the one that is told
read_told : (input : Change) (bytes text : List ℕ) → IsReadWhole input bytes → input.before.bytes ≡ Some text → bytes ≡ text
read_told input bytes text read told =
    let takes : Takes (Some text) input.after.bytes bytes = subst (λ (b : Option (List ℕ)). Takes b input.after.bytes bytes) told read.takes in
    sym (Takes-told text bytes input.after.bytes takes read.ended)

-- the commands that make a function up read nothing
generates_unread : (command : Command) (g : Generation) → command ≡ Gen g → IsReader command → ⊥
generates_unread command g same reads = subst IsReader same reads

tests_unread : (command : Command) (test : TestPlan) → command ≡ SelfTest test → IsReader command → ⊥
tests_unread command test same reads = subst IsReader same reads

module _ (command : Command) (input : Change) where
  -- what a command that reads is to answer
  record Asked : Type 0 where
    program : Program
    has : IsInputOf (is_linked command) input.before.bytes program
    answered : IsAnswered command program
    lines_answered : AreAnswered command (block_lines (is_linked command) has.text) program

  asked_of : IsReader command → IsAnswerable command input.before.bytes → Asked
  asked_of reads (generates g same) = absurd (generates_unread command g same reads)
  asked_of reads (tests test same) = absurd (tests_unread command test same reads)
  asked_of reads (answers program reader has answered of_lines) =
      record { program = program; has = has; answered = answered; lines_answered = of_lines }

  -- the text that was read is that of the program that is to be answered
  text_asked : (asked : Asked) (text : List ℕ) → HasRead input text → text ≡ asked.has.text
  text_asked asked text read = read_told input text asked.has.text read.whole asked.has.told

  not_too_long : Asked → IsTooLong input → ⊥
  not_too_long asked long =
      let P : Option (List ℕ) → Type 0 = λ b. TakesCount b input.after.bytes (INPUT_LIMIT + 1) in
      omega (arith, asked.has.within, TakesCount-told asked.has.text input.after.bytes (INPUT_LIMIT + 1) (subst P asked.has.told long.takes))

  not_refused_at : (asked : Asked) (text : List ℕ) (r : Refusal) → HasRead input text → IsRefusedAt (is_linked command) text r → ⊥
  not_refused_at asked text r read refused =
      program_not_refused (is_linked command) asked.has.text asked.program r asked.has.has.reads
      (subst (λ (t : List ℕ). IsRefusedAt (is_linked command) t r) (text_asked asked text read) refused)

  has_function : (asked : Asked) (text : List ℕ) → HasRead input text → HasNoFunction (is_linked command) text → ⊥
  has_function asked text read none =
      let reads : ReadsText (is_linked command) asked.has.text (Ok none.program) =
      subst (λ (t : List ℕ). ReadsText (is_linked command) t (Ok none.program)) (text_asked asked text read) none.reads in
      let same : asked.program ≡ none.program = programs_one (is_linked command) asked.has.text asked.program none.program asked.has.has.reads reads in
      asked.has.has.some (ap (λ (p : Program). p.functions) same ∙ none.no_one)

  program_answered : (asked : Asked) (program : Program) (fault : Fault) → HasReadProgram (is_linked command) input program →
      RefusesProgram command program fault → ⊥
  program_answered asked program fault read refused =
      let reads : ReadsText (is_linked command) asked.has.text (Ok program) =
      subst (λ (t : List ℕ). ReadsText (is_linked command) t (Ok program)) (text_asked asked read.text read.read) read.has.reads in
      let same : program ≡ asked.program = programs_one (is_linked command) asked.has.text program asked.program reads asked.has.has.reads in
      asked.answered fault (subst (λ (p : Program). RefusesProgram command p fault) same refused)

  lines_kept : (asked : Asked) (lines : List Line) (program : Program) (fault : Fault) → HasReadLines (is_linked command) input lines program →
      RefusesLines command lines program fault → ⊥
  lines_kept asked lines program fault read refused =
      let text : read.text ≡ asked.has.text = text_asked asked read.text read.read in
      let reads : ReadsText (is_linked command) asked.has.text (Ok program) =
      subst (λ (t : List ℕ). ReadsText (is_linked command) t (Ok program)) text read.has.reads in
      let same : program ≡ asked.program = programs_one (is_linked command) asked.has.text program asked.program reads asked.has.has.reads in
      let of : lines ≡ block_lines (is_linked command) asked.has.text =
      read.of ∙ ap (λ (t : List ℕ). block_lines (is_linked command) t) text in
      asked.lines_answered fault
      (subst (λ (p : Program). RefusesLines command (block_lines (is_linked command) asked.has.text) p fault) same
      (subst (λ (ls : List Line). RefusesLines command ls program fault) of refused))

  not_refused : {fault : Fault} → IsAnswerable command input.before.bytes → Refuses command input fault → ⊥
  not_refused form (too_long reads long) = not_too_long (asked_of reads form) long
  not_refused form (refused_at text r reads read refused) = not_refused_at (asked_of reads form) text r read refused
  not_refused form (no_function text reads read none) = has_function (asked_of reads form) text read none
  not_refused {fault = f} form (refused_program program reads read refused) = program_answered (asked_of reads form) program f read refused
  not_refused {fault = f} form (refused_lines lines program reads read refused) = lines_kept (asked_of reads form) lines program f read refused

-- the command that ended is the one that was asked for
ended_as_asked : (command : Command) (words : List (List ℕ)) (input : Change) (fault : Fault) → IsCommand words command → ReadingEnded words input fault →
    ReadingEnds command input fault
ended_as_asked command words input fault asked ended =
    let same : ended.command ≡ command =
    one_command words ended.command command ended.asked asked in
    subst (λ (c : Command). ReadingEnds c input fault) same ended.ended

module _ (command : Command) (words : List (List ℕ)) (input output : Change) (asked : IsCommand words command)
    (form : IsAnswerable command input.before.bytes) (no_read : MetFault input → ⊥) (no_write : MetFault output → ⊥) where
  memory_alone : (fault : Fault) → Explains words input output fault → fault ≡ Memory
  memory_alone Usage explains = absurd (explains (command, asked))
  memory_alone Write explains = absurd (no_write explains.1)
  memory_alone Read explains = absurd (no_read (ended_as_asked command words input Read asked explains).1)
  memory_alone Memory explains = refl
  memory_alone TooLong explains = absurd (not_refused command input form (ended_as_asked command words input TooLong asked explains))
  memory_alone (Refused r) explains = absurd (not_refused command input form (ended_as_asked command words input (Refused r) asked explains))
  memory_alone NoFunction explains = absurd (not_refused command input form (ended_as_asked command words input NoFunction asked explains))
  memory_alone UnknownFunction explains = absurd (not_refused command input form (ended_as_asked command words input UnknownFunction asked explains))
  memory_alone NoRegister explains = absurd (not_refused command input form (ended_as_asked command words input NoRegister asked explains))
  memory_alone FrameTooLarge explains = absurd (not_refused command input form (ended_as_asked command words input FrameTooLarge asked explains))
  memory_alone SymbolName explains = absurd (not_refused command input form (ended_as_asked command words input SymbolName asked explains))
  memory_alone SectionTooLarge explains = absurd (not_refused command input form (ended_as_asked command words input SectionTooLarge asked explains))

  pub complete : (fault : Fault) → Explains words input output fault → status_of fault ≡ status.Memory
  complete fault explains = ap status_of (memory_alone fault explains)
