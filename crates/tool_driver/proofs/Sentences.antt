-- The text of a program's output shows it alone, so what holds of the output holds of what the text shows.
use Rattle.std.proofs.Common.{ℕ, Bool, List, sym, subst, inl, inr}
use Rattle.std.proofs.lemmas.List.Elements.{All-weaker}
use Rattle.listing_text.specs.declared.output.ListedFunction.{ListedFunction}
use Rattle.listing_text.specs.declared.output.Output.{Output}
use Rattle.listing_text.specs.Shown.{Shows, OfShown}
use Rattle.listing_text.proofs.OneOutput.{one_reading}
use Rattle.value_proof.proofs.Keeping.{kept_values_are_wanted}
use Rattle.compile_output_proof.specs.listing_proof.Laws.{inlined_in}
use Rattle.read_program.specs.declared.program.Program.{Program}
use Rattle.compile_output_proof.specs.Laws.{OutputsArePrintable}
use Rattle.frame_theorem.specs.compile_theorem.Laws.{AreCompiledTo}
use Rattle.frame_theorem.specs.compile_theorem.OutputProperties.{Promises, IsExactFor, IsExact}
use Rattle.frame_theorem.specs.compile_theorem.Source.{SourceFunction, sources_among}
use Rattle.object_command.specs.listing_meaning.Program.{program_shown}
use Rattle.selftest_command.specs.run_command.Program.{ExposedSteps, sources_of, IsOutputOf, names_of}
use Rattle.selftest_command.proofs.run_command.Passed.{all_passed, passed_sources}
use Rattle.readback_strip.specs.read_proof.Read.{IsReadProgram}
use Rattle.tool_driver.specs.Compiled.{IsCompiledText}
use Rattle.tool_driver.specs.FurtherPromises.{AllGiveBack, AllStopWell, ListsKept, AllListKept}

-- ---- the sources

pub compiled_to : (steps : ExposedSteps) (program : Program) (o : Output) (is : IsOutputOf steps program o) →
    AreCompiledTo (names_of program.meta) is.functions o
compiled_to steps program o is =
    record { passed = all_passed program.meta program.functions is.functions is.passed; compiled = is.compiled }

-- what holds of the sources of what passes made holds of the functions that were read
pub of_read : (P : List SourceFunction → Type 0) (steps : ExposedSteps) (program : Program) (o : Output) (is : IsOutputOf steps program o) →
    P (sources_among is.functions) → P (sources_of program.functions)
of_read P steps program o is holds = subst P (sym (passed_sources program.meta program.functions is.functions is.passed)) holds

-- ---- what the text shows

module _ (printable : OutputsArePrintable) (with_frame with_inline : Bool) (steps : ExposedSteps) (program : Program) (text : List ℕ)
    (read : IsReadProgram program) (is : IsCompiledText with_frame with_inline steps program text) where
  shows : Shows (inlined_in program.meta) text is.output
  shows = record { spelled = is.spelled; printable = printable program is.is.functions is.output read is.is.passed is.is.compiled is.is.sections }

  pub of_shown : (P : Output → Type 0) → P is.output → OfShown (inlined_in program.meta) P text
  of_shown P holds = record {
    output = is.output;
    shown = shows;
    every = λ other also. subst P (one_reading (inlined_in program.meta) text is.output other shows also) holds;
  }

-- ---- parts of the headline

pub gives_back : (sources : List SourceFunction) (o : Output) → Promises sources o → AllGiveBack sources o
gives_back sources o promises = record {
  as_many = promises.as_many;
  each = λ n s f at there s0 starts m state since l along stands results ends leads.
      elim ((promises.each n s f at there).agrees s0 starts m state since l along stands) [
        | inl agrees ↦ inl (agrees.2.kept results ends leads)
        | inr fails ↦ inr fails
      ];
}

pub stops_well : (sources : List SourceFunction) (o : Output) → Promises sources o → AllStopWell sources o
stops_well sources o promises = record {
  as_many = promises.as_many;
  each = λ n s f at there. (promises.each n s f at there).stops;
}

-- ---- values that are kept

function_lists_kept : (o : Output) (f : ListedFunction) → IsExactFor o f → ListsKept o f
function_lists_kept o f exact v place p q address named told at none =
    kept_values_are_wanted (program_shown f) 0 v place p q named told ((exact.gives_none v address q at).0 none)

pub lists_kept : (o : Output) → IsExact o → AllListKept o
lists_kept o exact = All-weaker (IsExactFor o) (ListsKept o) (function_lists_kept o) o.functions exact
