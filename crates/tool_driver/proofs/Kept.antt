-- What the command that compiles wrote keeps each promise of the output that it is the text of.
use Rattle.std.proofs.Common.{◌≡◌, ℕ, List, [], map, Option, Some, None, IfSome, Contains, arith, is_some}
use Rattle.std.proofs.lemmas.List.Elements.{All-weaker, All-contains_itself}
use Rattle.mir_func.specs.SoundFrame.{SAVED}
use Rattle.cli.specs.declared.command.CompilePlan.{CompilePlan}
use Rattle.cli.specs.declared.command.Command.TheVariants.{Compile}
use Rattle.cli.specs.Command.{IsCommand}
use Rattle.listing_text.specs.declared.output.Output.{Output}
use Rattle.read_program.specs.declared.program.Program.{Program}
use Rattle.frame_theorem.specs.compile_theorem.Laws.{AreCompiledTo}
use Rattle.frame_theorem.specs.compile_theorem.OutputProperties.{Promises, IsExact, AreLaidOut}
use Rattle.frame_theorem.specs.compile_theorem.Words.{HaveWords}
use Rattle.frame_theorem.proofs.compile_theorem.HaveWords.{compiled_has_words}
use Rattle.frame_theorem.proofs.compile_theorem.Headline.{compiled_promises}
use Rattle.frame_theorem.proofs.compile_theorem.IsExact.{compiled_is_exact}
use Rattle.frame_theorem.proofs.compile_theorem.LaidOut.{compiled_is_laid_out, compiled_lists_passed}
use Rattle.selftest_command.specs.run_command.Program.{ExposedSteps, sources_of, IsOutputOf, names_of}
use Rattle.frame_theorem.specs.dwarf_sections.Frame.{IsFrameSection}
use Rattle.frame_theorem.specs.Laws.{SparesKept}
use Rattle.frame_theorem.specs.Unwinding.{AllUnwind}
use Rattle.frame_theorem.proofs.Compiled.{compiled_unwinds}
use Rattle.compile_output_proof.proofs.Inlined.{tell_inlined_lines}
use Rattle.tool_driver.specs.Compiled.{plan_steps}
use Rattle.tool_driver.specs.FurtherPromises.{AllGiveBack, AllStopWell, FramesUnwind, AllListKept}
use Rattle.tool_driver.specs.Run.{Finishes, KeepsHeadline, KeepsRegisters, StopsAtReturns, WroteExactly, WroteLaidOut}
use Rattle.tool_driver.specs.Run.{WroteKept, WroteWords, ShowsPassed, WrotePassed, WroteFrameSection, WroteUnwinding, WroteRangesSection, KeepsPromises}
use Rattle.tool_driver.specs.Stream.{Change}
use Rattle.tool_driver.proofs.Lines.{gives_lines}
use Rattle.tool_driver.proofs.RunLemmas.{has_written, has_written_as}
use Rattle.tool_driver.proofs.Sentences.{compiled_to, of_read, gives_back, stops_well, lists_kept}

-- no register is undefined
none_undefined : SparesKept []
none_undefined = All-weaker (Contains SAVED) (λ r. Contains [] r → ⊥) (λ r among undefined. none_in r undefined) SAVED (All-contains_itself SAVED) where
  none_in : (r : ℕ) → Contains [] r → ⊥
  none_in r (k, inside, same) = absurd (omega (arith, inside))

-- ---- an output of a program

module _ (steps : ExposedSteps) (p : Program) (o : Output) (is : IsOutputOf steps p o) where
  to : AreCompiledTo (names_of p.meta) is.functions o
  to = compiled_to steps p o is

  promised : Promises (sources_of p.functions) o
  promised = of_read (λ ss. Promises ss o) steps p o is (compiled_promises (names_of p.meta) is.functions o to)

  exact : IsExact o
  exact = compiled_is_exact (names_of p.meta) is.functions o to

  -- the section, if there is one, unwinds
  unwinds : FramesUnwind (sources_of p.functions) o
  unwinds = by_section o.frame is.sections.frame where
    by_section : (x : Option (List ℕ)) → IfSome x (IsFrameSection [] (map (λ c. c.code.now) is.sections.compiled)) →
        IfSome x (λ section. AllUnwind [] section (sources_of p.functions) o)
    by_section None section = tt
    by_section (Some bytes) section =
        of_read (λ ss. AllUnwind [] bytes ss o) steps p o is (compiled_unwinds (names_of p.meta) is.functions o to
        (map (λ c. c.code.now) is.sections.compiled) is.sections.coded.coded [] bytes none_undefined section)

  laid_out : AreLaidOut (names_of p.meta) (sources_of p.functions) o
  laid_out = of_read (λ ss. AreLaidOut (names_of p.meta) ss o) steps p o is (compiled_is_laid_out (names_of p.meta) is.functions o to)

  shows_passed : ShowsPassed steps p o
  shows_passed = record {
    functions = is.functions;
    passed = is.passed;
    made = is.made;
    lists = compiled_lists_passed (names_of p.meta) is.functions o to;
    sections = is.sections;
    rows = gives_lines p.meta is.functions o is.sections;
    inlined = tell_inlined_lines p is.functions o is.passed is.compiled is.sections;
  }

  pub keeps_promises : KeepsPromises steps p o
  keeps_promises = record {
    headline = promised;
    callee_saved = gives_back (sources_of p.functions) o promised;
    stops = stops_well (sources_of p.functions) o promised;
    unwinds = unwinds;
    exact = exact;
    kept = lists_kept o exact;
    laid_out = laid_out;
    words = compiled_has_words (names_of p.meta) is.functions o to;
    passed = shows_passed;
  }

-- ---- what was written

module _ (words : List (List ℕ)) (input output : Change) (finished : Finishes words input output) (plan : CompilePlan)
    (asked : IsCommand words (Compile plan)) where
  pub headline_kept : KeepsHeadline plan.plan.linked input output
  headline_kept = has_written plan (λ p. Promises (sources_of p.functions)) (promised (plan_steps plan.plan)) words input output finished asked

  pub registers_kept : KeepsRegisters plan.plan.linked input output
  registers_kept =
      has_written plan (λ p. AllGiveBack (sources_of p.functions))
      (λ p o is. gives_back (sources_of p.functions) o (promised (plan_steps plan.plan) p o is)) words input output finished asked

  pub stops_at_returns : StopsAtReturns plan.plan.linked input output
  stops_at_returns =
      has_written plan (λ p. AllStopWell (sources_of p.functions))
      (λ p o is. stops_well (sources_of p.functions) o (promised (plan_steps plan.plan) p o is)) words input output finished asked

  pub wrote_unwinding : WroteUnwinding plan.plan.linked input output
  wrote_unwinding =
      has_written plan (λ p. FramesUnwind (sources_of p.functions)) (unwinds (plan_steps plan.plan)) words input output finished asked

  pub wrote_exactly : WroteExactly plan.plan.linked input output
  wrote_exactly = has_written plan (λ p. IsExact) (exact (plan_steps plan.plan)) words input output finished asked

  pub wrote_kept : WroteKept plan.plan.linked input output
  wrote_kept =
      has_written plan (λ p. AllListKept) (λ p o is. lists_kept o (exact (plan_steps plan.plan) p o is)) words input output finished asked

  pub wrote_laid_out : WroteLaidOut plan.plan.linked input output
  wrote_laid_out =
      has_written plan (λ p. AreLaidOut (names_of p.meta) (sources_of p.functions)) (laid_out (plan_steps plan.plan)) words input output finished asked

  pub wrote_words : WroteWords plan.plan.linked input output
  wrote_words =
      has_written plan (λ p. HaveWords) (λ p o is. compiled_has_words (names_of p.meta) is.functions o (to (plan_steps plan.plan) p o is))
      words input output finished asked

  pub wrote_passed : WrotePassed plan.plan.linked (plan_steps plan.plan) input output
  wrote_passed = has_written plan (ShowsPassed (plan_steps plan.plan)) (shows_passed (plan_steps plan.plan)) words input output finished asked

  pub wrote_frame_section : WroteFrameSection plan.plan.linked plan.frame input output
  wrote_frame_section = has_written_as plan (λ p o. is_some o.frame ≡ plan.frame) (λ p o is present ranged. present) words input output finished asked

  pub wrote_ranges_section : WroteRangesSection plan.plan.linked plan.inline input output
  wrote_ranges_section = has_written_as plan (λ p o. is_some o.ranges ≡ plan.inline) (λ p o is present ranged. ranged) words input output finished asked
