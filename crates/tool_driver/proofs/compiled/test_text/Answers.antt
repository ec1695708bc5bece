-- The self-test is that of the plan's passes, with its reserve.
use Rattle.std.proofs.Common.{◌≡◌, ℕ, List, Option, Some, sym, subst, rules}
use Rattle.std.specs.Prelude.{IfSome}
use Rattle.cli.specs.declared.command.TestPlan.{TestPlan}
use Rattle.gen_sizes.proofs.Frames.{generated_frames_are_small}
use Rattle.gen_sizes.proofs.Registers.{generated_have_registers}
use Rattle.gen_sizes.proofs.Sections.{generated_sections_are_small}
use Rattle.pass_list.specs.Names.{AreDistinct}
use Rattle.pass_list.specs.declared.kind.PassKind.{PassKind}
use Rattle.selftest_command.specs.Tested.{IsSelfTestOf}
use Rattle.tool_driver.specs.Answer.{IsTestText}
use Rattle.tool_driver.proofs.Plans.{by_plan}
use Rattle.tool_driver.proofs.compiled.test_text.Goals as goal

module _ (asked : TestPlan) (passes : List PassKind) (reserve : List ℕ) (same : passes ≡ asked.plan.passes) (kept : reserve ≡ asked.plan.reserve) where
  tests : (o : Option (List ℕ)) (text : List ℕ) → o ≡ Some text →
      IfSome o (IsSelfTestOf reserve passes asked.function.number asked.function.blocks) → IsTestText asked text
  tests o text is given =
      by_plan (λ r l. IsSelfTestOf r l asked.function.number asked.function.blocks text) passes asked.plan.passes reserve asked.plan.reserve same kept
      (subst (λ (x : Option (List ℕ)). IfSome x (IsSelfTestOf reserve passes asked.function.number asked.function.blocks)) is given)

pub self_test-requires-clause-distinct : goal.self_test-requires-clause-distinct
self_test-requires-clause-distinct c = subst AreDistinct (sym c.as_slice.ensures.value) c.as_slice.ensures.distinct

pub returns-in-Ok-Some-clause-ok : goal.returns-in-Ok-Some-clause-ok
returns-in-Ok-Some-clause-ok c =
    let is : c.in-Ok-Some.field-0 ≡ Some c.in-Ok-Some.text = first_of (cc, search rules) in
    tests c.args.asked.now c.as_slice.result.now c.as_slice-2.result.now c.as_slice.ensures.value c.as_slice-2.ensures c.in-Ok-Some.field-0
    c.in-Ok-Some.text is c.in-Ok-Some.ensures.text

pub returns-in-NoRegister-clause-err : goal.returns-in-NoRegister-clause-err
returns-in-NoRegister-clause-err c =
    let is = c.in-NoRegister.is in
    absurd (generated_have_registers c.args.asked.now.function.number c.args.asked.now.function.blocks c.as_slice-2.result.now c.requires.few
    (c.in-Err.ensures.no_register cc))

pub returns-in-FrameTooLarge-clause-err : goal.returns-in-FrameTooLarge-clause-err
returns-in-FrameTooLarge-clause-err c =
    let is = c.in-FrameTooLarge.is in
    absurd (generated_frames_are_small c.args.asked.now.function.number c.args.asked.now.function.blocks c.as_slice-2.result.now c.as_slice.result.now
    (c.in-Err.ensures.frame_too_large cc))

pub returns-in-SectionTooLarge-clause-err : goal.returns-in-SectionTooLarge-clause-err
returns-in-SectionTooLarge-clause-err c =
    let is = c.in-SectionTooLarge.is in
    absurd (generated_sections_are_small c.args.asked.now.function.number c.args.asked.now.function.blocks c.as_slice-2.result.now c.as_slice.result.now
    c.requires.some c.requires.few (c.in-Err.ensures.section_too_large cc))
