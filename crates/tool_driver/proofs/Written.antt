-- What the commands that report, that run and that test wrote, and that which writes an object.
use Rattle.std.proofs.Common.{◌≡◌, ℕ, List, Option, Some, None, subst}
use Rattle.cli.specs.declared.command.Command.{Command}
use Rattle.cli.specs.declared.command.LinkableForm.{LinkableForm}
use Rattle.cli.specs.declared.command.ObjectPlan.{ObjectPlan}
use Rattle.cli.specs.declared.command.PassPipeline.{PassPipeline}
use Rattle.cli.specs.declared.command.RunPlan.{RunPlan}
use Rattle.cli.specs.declared.command.TestPlan.{TestPlan}
use Rattle.cli.specs.declared.command.Command.TheVariants.{Report, Object, Run, SelfTest}
use Rattle.cli.specs.Command.{IsCommand}
use Rattle.cli.proofs.CommandWords.{one_command}
use Rattle.read_metadata.specs.read_lexer.declared.line.Line.{Line}
use Rattle.read_program.specs.declared.program.Program.{Program}
use Rattle.kept_program.proofs.Holding.{suspended_programs_hold}
use Rattle.linkable_placement.proofs.Placed.{object_placed}
use Rattle.linkable_theorem.proofs.Guaranteed.{tables_guarantee}
use Rattle.selftest_command.specs.run_command.Program.{names_of, sources_of}
use Rattle.tool_driver.specs.Answer.{block_lines}
use Rattle.tool_driver.specs.Run.{Finishes, AnswersRead, AnswersInput, WroteReport, WroteObject, WroteRun, WroteTest, KeepsPromises, IsKeptAsked}
use Rattle.tool_driver.specs.Compiled.{plan_steps, IsObjectAsked}
use Rattle.tool_driver.specs.Stream.{Change}
use Rattle.tool_driver.proofs.Kept.{keeps_promises}

-- an object in the form that is asked for is one of an output that keeps the promises
kept_asked : (form : Option LinkableForm) (plan : PassPipeline) (lines : List Line) (p : Program) (bytes : List ℕ)
    → IsObjectAsked form plan lines p bytes → IsKeptAsked form plan lines p bytes
kept_asked None plan lines p bytes file = record {
  made = file.output;
  is = file.is;
  promises = keeps_promises (plan_steps plan) p file.output file.is.made;
  object = file.object;
}
kept_asked (Some form) plan lines p bytes file =
    let o = file.compilation.output in
    let promises : KeepsPromises (plan_steps plan) p o = keeps_promises (plan_steps plan) p o file.by_plan.is.made in
    let is = file.object in
    record {
      compilation = file.compilation;
      by_plan = file.by_plan;
      promises = promises;
      is = is;
      placed = object_placed (names_of p.meta) (sources_of p.functions) o is.loclists is.tables promises.laid_out is.are.are.writable;
      tables =
          tables_guarantee lines plan.reserve plan.passes p file.compilation file.by_plan.compiled form.frame is.tables is.are;
      suspended =
          suspended_programs_hold plan.reserve plan.passes p file.compilation file.by_plan.compiled is.lists.lists is.lists.kept;
    }

module _ (words : List (List ℕ)) (input output : Change) (finished : Finishes words input output) where
  -- what the command that is asked for writes was written
  answers_asked : (command : Command) → IsCommand words command → AnswersInput command input finished.text
  answers_asked command asked =
      let accepted = finished.accepted in
      let same : accepted.command ≡ command = one_command words accepted.command command accepted.asked asked in
      subst (λ (c : Command). AnswersInput c input finished.text) same accepted.answers

  pub wrote_report : (plan : PassPipeline) → IsCommand words (Report plan) → WroteReport plan input output
  wrote_report plan asked =
      let answers : AnswersRead (Report plan) input finished.text = answers_asked (Report plan) asked in
      record {
        text = answers.text;
        read = answers.read;
        program = answers.answers.program;
        has = answers.answers.has;
        bytes = finished.text;
        is = answers.answers.answers;
        written = finished.written;
      }

  pub wrote_object : (asked : ObjectPlan) → IsCommand words (Object asked) → WroteObject asked input output
  wrote_object asked is =
      let answers : AnswersRead (Object asked) input finished.text = answers_asked (Object asked) is in
      record {
        text = answers.text;
        read = answers.read;
        program = answers.answers.program;
        has = answers.answers.has;
        bytes = finished.text;
        is = kept_asked asked.form asked.plan (block_lines asked.plan.linked answers.text) answers.answers.program finished.text answers.answers.answers;
        written = finished.written;
      }

  pub wrote_run : (run : RunPlan) → IsCommand words (Run run) → WroteRun run input output
  wrote_run run asked =
      let answers : AnswersRead (Run run) input finished.text = answers_asked (Run run) asked in
      record {
        text = answers.text;
        read = answers.read;
        program = answers.answers.program;
        has = answers.answers.has;
        bytes = finished.text;
        is = answers.answers.answers;
        written = finished.written;
      }

  pub wrote_test : (test : TestPlan) → IsCommand words (SelfTest test) → WroteTest test output
  wrote_test test asked =
      let answers : AnswersInput (SelfTest test) input finished.text = answers_asked (SelfTest test) asked in
      record { text = finished.text; is = answers.1; written = finished.written }
