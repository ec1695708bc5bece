-- What the command that makes up a function wrote.
use Rattle.std.proofs.Common.{◌≡◌, ℕ, List, subst}
use Rattle.cli.specs.declared.command.Command.{Command}
use Rattle.cli.specs.declared.command.Command.TheVariants.{Gen}
use Rattle.cli.specs.Command.{IsCommand}
use Rattle.cli.proofs.CommandWords.{one_command}
use Rattle.cli_numbers.specs.declared.generation.Generation.{Generation}
use Rattle.gen_text.specs.GeneratedText.{generated_text}
use Rattle.tool_driver.specs.Run.{Finishes, AnswersInput}
use Rattle.tool_driver.specs.Stream.{Change, IsWrittenWhole}

pub wrote_generated : (words : List (List ℕ)) (input output : Change) → Finishes words input output → (g : Generation) → IsCommand words (Gen g) →
    IsWrittenWhole output (generated_text g.number g.blocks)
wrote_generated words input output finished g asked =
    let accepted = finished.accepted in
    let command : accepted.command ≡ Gen g =
    one_command words accepted.command (Gen g) accepted.asked asked in
    let answers : AnswersInput (Gen g) input finished.text = subst (λ (c : Command). AnswersInput c input finished.text) command accepted.answers in
    subst (λ (bytes : List ℕ). IsWrittenWhole output bytes) answers.1 finished.written
