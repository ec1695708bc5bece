-- The passes that run are those of the plan, with its reserve.
use Rattle.std.proofs.Common.{ℕ, List, refl, sym, subst}
use Rattle.pass_list.specs.Names.{AreDistinct}
use Rattle.selftest_command.specs.run_command.Program.{IsOutputOf, HaveRegisters, HasVirtualRegister, HasLargeFrame, steps_of}
use Rattle.tool_driver.specs.Refusals.{no_register, frame_too_large}
use Rattle.tool_driver.proofs.AnswerLemmas.{compile_named, IsLargeAsAsked, large_as_asked}
use Rattle.tool_driver.proofs.Plans.{by_plan}
use Rattle.tool_driver.proofs.compiled.compilation_asked.Goals as goal

pub compile_with-requires-clause-distinct : goal.compile_with-requires-clause-distinct
compile_with-requires-clause-distinct c = subst AreDistinct (sym c.as_slice.ensures.value) c.as_slice.ensures.distinct

pub returns-in-Ok-clause-output : goal.returns-in-Ok-clause-output
returns-in-Ok-clause-output c =
    by_plan (λ r l. IsOutputOf (steps_of r l) c.args.program.now c.in-Ok.compilation.output) c.as_slice.result.now c.args.asked.now.plan.passes
    c.as_slice-2.result.now c.args.asked.now.plan.reserve c.as_slice.ensures.value c.as_slice-2.ensures c.in-Ok.ensures.output

pub returns-in-NoRegister-clause-err : goal.returns-in-NoRegister-clause-err
returns-in-NoRegister-clause-err c =
    let is = c.in-NoRegister.is in
    no_register c.args.asked.now.plan refl (compile_named c.args.asked.now c.args.program.now)
    (subst (λ (r : List ℕ). HasVirtualRegister r c.args.program.now.functions) c.as_slice-2.ensures (c.in-Err.ensures.no_register cc))

pub returns-in-FrameTooLarge-clause-err : goal.returns-in-FrameTooLarge-clause-err
returns-in-FrameTooLarge-clause-err c =
    let is = c.in-FrameTooLarge.is in
    frame_too_large c.args.asked.now.plan refl (compile_named c.args.asked.now c.args.program.now)
    (subst (λ (r : List ℕ). HaveRegisters r c.args.program.now.functions) c.as_slice-2.ensures (c.in-Err.ensures.registers_first cc))
    (by_plan (λ r l. HasLargeFrame (steps_of r l) c.args.program.now.functions) c.as_slice.result.now c.args.asked.now.plan.passes c.as_slice-2.result.now
    c.args.asked.now.plan.reserve c.as_slice.ensures.value c.as_slice-2.ensures (c.in-Err.ensures.frame_too_large cc))

pub returns-in-SectionTooLarge-clause-err : goal.returns-in-SectionTooLarge-clause-err
returns-in-SectionTooLarge-clause-err c =
    let is = c.in-SectionTooLarge.is in
    large_as_asked c.args.asked.now c.args.program.now
    (by_plan (λ r l. IsLargeAsAsked c.args.asked.now (steps_of r l) c.args.program.now) c.as_slice.result.now
    c.args.asked.now.plan.passes c.as_slice-2.result.now c.args.asked.now.plan.reserve c.as_slice.ensures.value c.as_slice-2.ensures
    (c.in-Err.ensures.section_too_large cc))
