use Rattle.std.proofs.Common.{◌≤◌, map, sym, ◌∙◌, arith}
use Rattle.std.specs.Prelude.{string_bytes}
use Rattle.cli.specs.Command.{MAX_STEPS}
use Rattle.cli.proofs.CommandWords.{the_steps, no_steps, no_steps_inline, no_steps_idle, no_steps_object, no_some}
use Rattle.cli.proofs.command.steps_asked.Goals as goal

pub overflow_cast-count : goal.overflow_cast-count
overflow_cast-count c =
    let few : c.in-Some.count ≤ MAX_STEPS = ((c.number.ensures c.in-Some.count).0 c.in-Some.is).1 in
    omega (arith, few)

pub returns-then-with_frame : goal.returns-then-with_frame
returns-then-with_frame c = λ run. (
  λ e. absurd (no_some run e),
  λ h. absurd (no_steps c.args.name.now c.args.steps.now (map string_bytes c.args.words.now) c.in-Some-2.given
      ((c.in_ok-given.ensures c.in-Some-2.given).0 c.in-Some-2.is) c.if-with_frame.true run h),
)

pub returns-then-with_inline : goal.returns-then-with_inline
returns-then-with_inline c = λ run. (
  λ e. absurd (no_some run e),
  λ h. absurd (no_steps_inline c.args.name.now c.args.steps.now (map string_bytes c.args.words.now) c.in-Some-2.given
      ((c.in_ok-given.ensures c.in-Some-2.given).0 c.in-Some-2.is) c.if-with_inline.true run h),
)

pub returns-then-with_idle : goal.returns-then-with_idle
returns-then-with_idle c = λ run. (
  λ e. absurd (no_some run e),
  λ h. absurd (no_steps_idle c.args.name.now c.args.steps.now (map string_bytes c.args.words.now) c.in-Some-2.given
      ((c.in_ok-given.ensures c.in-Some-2.given).0 c.in-Some-2.is) (sym c.has_idle_symbols-with_idle.ensures ∙ c.if-with_idle.true) run h),
)

pub returns-then-for_objects : goal.returns-then-for_objects
returns-then-for_objects c = λ run. (
  λ e. absurd (no_some run e),
  λ h. absurd (no_steps_object c.args.name.now c.args.steps.now (map string_bytes c.args.words.now) c.in-Some-2.given
      ((c.in_ok-given.ensures c.in-Some-2.given).0 c.in-Some-2.is) (sym c.has_object_words-for_objects.ensures ∙ c.if-for_objects.true) run h),
)

pub run_of-requires-clause-for_objects : goal.run_of-requires-clause-for_objects
run_of-requires-clause-for_objects c = sym c.has_object_words-for_objects.ensures ∙ c.if-for_objects.false

pub run_of-requires-clause-idle : goal.run_of-requires-clause-idle
run_of-requires-clause-idle c = sym c.has_idle_symbols-with_idle.ensures ∙ c.if-with_idle.false

pub returns : goal.returns
returns c =
    let number = (c.number.ensures c.in-Some.count).0 c.in-Some.is in
    the_steps c.args.name.now c.in_ok-name.name c.args.steps.now (map string_bytes c.args.words.now) c.in-Some.count c.in-Some-2.given c.run_of.result
    (c.in_ok-name.ensures ∙ c.as_bytes.ensures.value) number.0 number.1 ((c.in_ok-given.ensures c.in-Some-2.given).0 c.in-Some-2.is) c.run_of.ensures
