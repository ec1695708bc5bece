-- The passes that run are those of the plan, with its reserve.
use Rattle.std.proofs.Common.{ℕ, List, sym, subst}
use Rattle.pass_list.specs.Names.{AreDistinct}
use Rattle.selftest_command.specs.run_command.Program.{IsOutputOf, IsCompilationOf, HaveRegisters, HasVirtualRegister, HasLargeFrame, HasLargeSection, steps_of}
use Rattle.tool_driver.proofs.Plans.{by_plan}
use Rattle.tool_driver.proofs.compiled.compilation.Goals as goal

pub compile-requires-clause-distinct : goal.compile-requires-clause-distinct
compile-requires-clause-distinct c = subst AreDistinct (sym c.as_slice.ensures.value) c.as_slice.ensures.distinct

pub returns-in-Ok-clause-output : goal.returns-in-Ok-clause-output
returns-in-Ok-clause-output c =
    by_plan (λ r l. IsOutputOf (steps_of r l) c.args.program.now c.in-Ok.compilation.output) c.as_slice.result.now c.args.plan.now.passes
    c.as_slice-2.result.now
    c.args.plan.now.reserve c.as_slice.ensures.value c.as_slice-2.ensures c.in-Ok.ensures.output

pub returns-in-Ok-clause-compilation : goal.returns-in-Ok-clause-compilation
returns-in-Ok-clause-compilation c =
    by_plan (λ r l. IsCompilationOf r l c.args.program.now c.in-Ok.compilation) c.as_slice.result.now c.args.plan.now.passes
    c.as_slice-2.result.now c.args.plan.now.reserve c.as_slice.ensures.value c.as_slice-2.ensures c.in-Ok.ensures.compilation

pub returns-in-Err-NoRegister-clause-err : goal.returns-in-Err-NoRegister-clause-err
returns-in-Err-NoRegister-clause-err c =
    subst (λ (r : List ℕ). HasVirtualRegister r c.args.program.now.functions) c.as_slice-2.ensures (c.in-Err-NoRegister.ensures.no_register cc)

pub returns-in-Err-FrameTooLarge-clause-err : goal.returns-in-Err-FrameTooLarge-clause-err
returns-in-Err-FrameTooLarge-clause-err c = (
  subst (λ (r : List ℕ). HaveRegisters r c.args.program.now.functions) c.as_slice-2.ensures (c.in-Err-FrameTooLarge.ensures.registers_first cc),
  by_plan (λ r l. HasLargeFrame (steps_of r l) c.args.program.now.functions) c.as_slice.result.now c.args.plan.now.passes c.as_slice-2.result.now
      c.args.plan.now.reserve c.as_slice.ensures.value c.as_slice-2.ensures (c.in-Err-FrameTooLarge.ensures.frame_too_large cc),
)

pub returns-in-Err-SectionTooLarge-clause-err : goal.returns-in-Err-SectionTooLarge-clause-err
returns-in-Err-SectionTooLarge-clause-err c =
    by_plan (λ r l. HasLargeSection (steps_of r l) c.args.program.now) c.as_slice.result.now c.args.plan.now.passes c.as_slice-2.result.now
    c.args.plan.now.reserve c.as_slice.ensures.value c.as_slice-2.ensures (c.in-Err-SectionTooLarge.ensures.section_too_large cc)
