-- What a command writes for a program, and for the text of one.
use Rattle.std.specs.Prelude.{◌≡◌, Bool, false, ◌≢◌, ℕ, List, [], Ok}
pub use Rattle.read_metadata.specs.read_lexer.declared.line.Line.{Line}
use Rattle.read_documents.specs.Documents.{documents_of}
use Rattle.read_program.specs.declared.program.Program.{Program}
use Rattle.read_program.specs.Program.{ReadsText}
use Rattle.readback_strip.specs.strip_command.StripText.{stripped_text}
use Rattle.cli.specs.declared.command.Command.{Command}
use Rattle.cli.specs.declared.command.Command.TheVariants.{Compile, Listing, Report, Object, Run, Strip, Gen, SelfTest}
use Rattle.cli.specs.declared.command.TestPlan.{TestPlan}
use Rattle.report_command.specs.ProgramReport.{IsReportText}
use Rattle.selftest_command.specs.run_command.Source.{IsRunOfProgram}
use Rattle.selftest_command.specs.Tested.{IsSelfTestOf}
use Rattle.tool_driver.specs.Compiled.{plan_steps, IsCompiledText, IsListingText, IsObjectAsked}

-- whether a command reads the linked language
abbrev pub is_linked : Command → Bool
is_linked (Compile asked) = asked.plan.linked
is_linked (Listing plan) = plan.linked
is_linked (Report plan) = plan.linked
is_linked (Object asked) = asked.plan.linked
is_linked (Run run) = run.plan.linked
is_linked (Strip linked) = linked
is_linked (Gen g) = false
is_linked (SelfTest test) = false

-- the text is read as this program, which has a function; `linked` is whether the linked language is read
pub record HasFunctions (linked : Bool) (text : List ℕ) (program : Program) : Type 0 where
  pub reads : ReadsText linked text (Ok program)
  pub some : program.functions ≢ []

-- the lines of a text's IR block
abbrev pub block_lines : (linked : Bool) → (text : List ℕ) → List Line
block_lines linked text = (documents_of linked text).meta

-- what a command writes for a program with an IR block of these lines; a command that reads no input writes nothing for any
abbrev pub Answers : Command → List Line → Program → (output : List ℕ) → Type 0
Answers (Compile asked) lines program output = IsCompiledText asked.frame asked.inline (plan_steps asked.plan) program output
Answers (Listing plan) lines program output = IsListingText (plan_steps plan) program output
Answers (Report plan) lines program output = IsReportText plan.reserve plan.passes program output
Answers (Object asked) lines program output = IsObjectAsked asked.form asked.plan lines program output
Answers (Run run) lines program output = IsRunOfProgram (plan_steps run.plan) program run.name run.steps run.symbols run.arguments run.answers output
Answers (Strip linked) lines program output = output ≡ stripped_text program.functions
Answers (Gen g) lines program output = ⊥
Answers (SelfTest test) lines program output = ⊥

-- the text is read as a program with a function, and this is what the command writes for it
pub record AnswersText (command : Command) (text output : List ℕ) : Type 0 where
  pub program : Program
  pub has : HasFunctions (is_linked command) text program
  pub answers : Answers command (block_lines (is_linked command) text) program output

-- the text that a self-test writes
abbrev pub IsTestText : TestPlan → (text : List ℕ) → Type 0
IsTestText test text = IsSelfTestOf test.plan.reserve test.plan.passes test.function.number test.function.blocks text
