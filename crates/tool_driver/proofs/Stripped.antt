-- What the command that strips wrote is read in turn.
use Rattle.std.proofs.Common.{◌≡◌, ◌≢◌, Bool, false, ℕ, List, [], ◌∷◌, map, refl, sym, subst}
use Rattle.cli.specs.declared.command.Command.{Command}
use Rattle.cli.specs.declared.command.Command.TheVariants.{Strip}
use Rattle.cli.specs.Command.{IsCommand}
use Rattle.cli.proofs.CommandWords.{one_command}
use Rattle.readback_strip.specs.readback_functions.Bytes.{AreBytes}
use Rattle.readback_strip.specs.readback_functions.Stripped.{reread}
use Rattle.read_program.specs.declared.closing.Parsed.{Parsed}
use Rattle.read_program.specs.declared.program.Program.{Program}
use Rattle.readback_strip.proofs.Texts.{stripped_texts_are_read}
use Rattle.readback_strip.specs.Text.{stripped_program, IsReadStripped}
use Rattle.readback_strip.specs.strip_command.StripText.{stripped_text}
use Rattle.tool_driver.specs.Answer.{HasFunctions}
use Rattle.tool_driver.specs.Run.{Finishes, AnswersRead, AnswersInput, IsReadAgain, WroteStripped}
use Rattle.tool_driver.specs.Stream.{Change, IsWrittenWhole}

some_still : (functions : List Parsed) → functions ≢ [] → map reread functions ≢ []
some_still [] some none = some refl
some_still (f ∷ fs) some none = cc

-- without the linked language
read_again : (text : List ℕ) (p : Program) → AreBytes text → HasFunctions false text p → IsReadAgain p
read_again text p bytes has =
    let back : IsReadStripped p = stripped_texts_are_read text p bytes has.reads in
    let reads : HasFunctions false (stripped_text p.functions) (stripped_program p) =
    record { reads = back.reads; some = some_still p.functions has.some } in
    record { reads = reads; again = record { program = stripped_program p; has = reads; answers = sym back.same } }

module _ (linked : Bool) (words : List (List ℕ)) (input output : Change) (finished : Finishes words input output) (asked : IsCommand words (Strip linked)) where
  pub wrote_stripped : WroteStripped linked input output
  wrote_stripped =
      let accepted = finished.accepted in
      let command : accepted.command ≡ Strip linked = one_command words accepted.command (Strip linked) accepted.asked asked in
      let answers : AnswersRead (Strip linked) input finished.text =
      subst (λ (c : Command). AnswersInput c input finished.text) command accepted.answers in
      let p = answers.answers.program in
      let has : HasFunctions linked answers.text p = answers.answers.has in
      record {
        text = answers.text;
        read = answers.read;
        program = p;
        has = has;
        written = subst (λ (bytes : List ℕ). IsWrittenWhole output bytes) answers.answers.answers finished.written;
        again = λ plain. read_again answers.text p answers.read.bytes (subst (λ (l : Bool). HasFunctions l answers.text p) plain has);
      }
