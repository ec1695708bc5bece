use Rattle.std.proofs.Common.{◌∷◌, refl, sym, ◌∙◌, map}
use Rattle.std.specs.Prelude.{string_bytes}
use Rattle.cli.specs.declared.command.Command.TheVariants.{Compile, Listing, Report, Object, Run, Strip, SelfTest}
use Rattle.cli.proofs.CommandWords.{the_command, no_compile, no_listing, no_report, no_object, no_run, no_test, no_strip, no_some}
use Rattle.cli.proofs.command.named.Goals as goal

pub returns-in-Some : goal.returns-in-Some
returns-in-Some c =
    the_command (c.args.name.now ∷ map string_bytes c.args.words.now) (Compile c.in-Some.plan)
    (c.is_same.ensures.0 c.if-is_same.true, (c.in_ok-plan.ensures c.in-Some.plan).0 c.in-Some.is)

pub returns-in-None : goal.returns-in-None
returns-in-None c = λ command. (
  λ e. absurd (no_some command e),
  λ h. absurd (no_compile c.args.name.now (map string_bytes c.args.words.now) (c.is_same.ensures.0 c.if-is_same.true)
      (λ p given. no_some p (sym c.in-None.is ∙ (c.in_ok-plan.ensures p).1 given)) command h),
)

pub returns-in-Some-2 : goal.returns-in-Some-2
returns-in-Some-2 c =
    the_command (c.args.name.now ∷ map string_bytes c.args.words.now) (Listing c.in-Some-2.plan)
    (c.is_same-2.ensures.0 c.if-is_same-2.true, (c.in_ok-plan-2.ensures c.in-Some-2.plan).0 c.in-Some-2.is)

pub returns-in-None-2 : goal.returns-in-None-2
returns-in-None-2 c = λ command. (
  λ e. absurd (no_some command e),
  λ h. absurd (no_listing c.args.name.now (map string_bytes c.args.words.now) (c.is_same-2.ensures.0 c.if-is_same-2.true)
      (λ p given. no_some p (sym c.in-None-2.is ∙ (c.in_ok-plan-2.ensures p).1 given)) command h),
)

pub returns-in-Some-3 : goal.returns-in-Some-3
returns-in-Some-3 c =
    the_command (c.args.name.now ∷ map string_bytes c.args.words.now) (Report c.in-Some-3.plan)
    (c.is_same-3.ensures.0 c.if-is_same-3.true, (c.in_ok-plan-3.ensures c.in-Some-3.plan).0 c.in-Some-3.is)

pub returns-in-None-3 : goal.returns-in-None-3
returns-in-None-3 c = λ command. (
  λ e. absurd (no_some command e),
  λ h. absurd (no_report c.args.name.now (map string_bytes c.args.words.now) (c.is_same-3.ensures.0 c.if-is_same-3.true)
      (λ p given. no_some p (sym c.in-None-3.is ∙ (c.in_ok-plan-3.ensures p).1 given)) command h),
)

pub returns-in-Some-4 : goal.returns-in-Some-4
returns-in-Some-4 c =
    the_command (c.args.name.now ∷ map string_bytes c.args.words.now) (Object c.in-Some-4.asked)
    (c.is_same-4.ensures.0 c.if-is_same-4.true, (c.in_ok-asked.ensures c.in-Some-4.asked).0 c.in-Some-4.is)

pub returns-in-None-4 : goal.returns-in-None-4
returns-in-None-4 c = λ command. (
  λ e. absurd (no_some command e),
  λ h. absurd (no_object c.args.name.now (map string_bytes c.args.words.now) (c.is_same-4.ensures.0 c.if-is_same-4.true)
      (λ p given. no_some p (sym c.in-None-4.is ∙ (c.in_ok-asked.ensures p).1 given)) command h),
)

pub returns-in-Some-5 : goal.returns-in-Some-5
returns-in-Some-5 c =
    the_command (c.args.name.now ∷ map string_bytes c.args.words.now) (Run c.in-Some-5.found)
    (c.is_same-5.ensures.0 c.if-is_same-5.true, (c.in_ok-found.ensures c.in-Some-5.found).0 c.in-Some-5.is)

pub returns-in-None-5 : goal.returns-in-None-5
returns-in-None-5 c = λ command. (
  λ e. absurd (no_some command e),
  λ h. absurd (no_run c.args.name.now (map string_bytes c.args.words.now) (c.is_same-5.ensures.0 c.if-is_same-5.true)
      (λ r given. no_some r (sym c.in-None-5.is ∙ (c.in_ok-found.ensures r).1 given)) command h),
)

pub returns-in-Some-6 : goal.returns-in-Some-6
returns-in-Some-6 c =
    the_command (c.args.name.now ∷ map string_bytes c.args.words.now) (SelfTest c.in-Some-6.test)
    (c.is_same-6.ensures.0 c.if-is_same-6.true, (c.in_ok-test.ensures c.in-Some-6.test).0 c.in-Some-6.is)

pub returns-in-None-6 : goal.returns-in-None-6
returns-in-None-6 c = λ command. (
  λ e. absurd (no_some command e),
  λ h. absurd (no_test c.args.name.now (map string_bytes c.args.words.now) (c.is_same-6.ensures.0 c.if-is_same-6.true)
      (λ t given. no_some t (sym c.in-None-6.is ∙ (c.in_ok-test.ensures t).1 given)) command h),
)

pub returns-in-Some-strip_asked : goal.returns-in-Some-strip_asked
returns-in-Some-strip_asked c =
    the_command (c.args.name.now ∷ map string_bytes c.args.words.now) (Strip c.in-Some-strip_asked.linked)
    (c.is_same-7.ensures.0 c.if-is_same-7.true, (c.in-Some-strip_asked.ensures c.in-Some-strip_asked.linked).0 refl)

pub returns-in-None-strip_asked : goal.returns-in-None-strip_asked
returns-in-None-strip_asked c = λ command. (
  λ e. absurd (no_some command e),
  λ h. absurd (no_strip c.args.name.now (map string_bytes c.args.words.now) (c.is_same-7.ensures.0 c.if-is_same-7.true)
      (λ l given. no_some l ((c.in-None-strip_asked.ensures l).1 given)) command h),
)
