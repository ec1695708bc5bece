-- The object of a compilation that a linker places is that of an output of the program.
use Rattle.std.proofs.Common.{ℕ, Option, refl, sym, subst, inl, inr}
use Rattle.cli.specs.declared.command.LinkableForm.{LinkableForm}
use Rattle.selftest_command.specs.run_command.Program.{IsCompilationOf}
use Rattle.linkable_program.specs.Program.{IsLinkableOf, IsLinkableLarge}
use Rattle.tool_driver.specs.Compiled.{HasInvalidNameAsked}
use Rattle.tool_driver.specs.Refusals.{no_symbol_name, linkable_too_large}
use Rattle.tool_driver.proofs.Plans.{by_plan}
use Rattle.tool_driver.proofs.compiled.linkable_in.Goals as goal

pub linkable_of-requires-clause-compilation : goal.linkable_of-requires-clause-compilation
linkable_of-requires-clause-compilation c =
    by_plan (λ r l. IsCompilationOf r l c.args.program.now c.args.compilation) c.args.asked.now.plan.passes c.as_slice.result.now
    c.args.asked.now.plan.reserve c.as_slice-2.result.now (sym c.as_slice.ensures.value) (sym c.as_slice-2.ensures) c.requires.compilation.compiled

pub returns-in-Ok-clause-ok : goal.returns-in-Ok-clause-ok
returns-in-Ok-clause-ok c = record {
  compilation = c.args.compilation;
  by_plan = c.requires.compilation;
  object =
      subst (λ (n : ℕ). IsLinkableOf c.args.lines.now c.args.program.now c.args.compilation c.args.form.frame n c.in-Ok.bytes) c.flags_of.ensures
      c.in-Ok.ensures.object;
}

pub returns-in-Err-SymbolName-clause-err : goal.returns-in-Err-SymbolName-clause-err
returns-in-Err-SymbolName-clause-err c =
    inl
    (no_symbol_name c.args.asked.now refl
    (subst (λ (f : Option LinkableForm). HasInvalidNameAsked f c.args.asked.now.plan c.args.program.now) (sym c.requires.form)
    (record { compilation = c.args.compilation; by_plan = c.requires.compilation; invalid = c.in-Err-SymbolName.ensures.symbol_name cc })))

pub returns-in-Err-TooLarge-clause-err : goal.returns-in-Err-TooLarge-clause-err
returns-in-Err-TooLarge-clause-err c =
    inr
    (linkable_too_large c.args.asked.now c.args.form refl c.requires.form
    (record {
      compilation = c.args.compilation;
      by_plan = c.requires.compilation;
      large =
          subst (λ (n : ℕ). IsLinkableLarge c.args.lines.now c.args.program.now c.args.compilation c.args.form.frame n) c.flags_of.ensures
          (c.in-Err-TooLarge.ensures.large cc);
    }))

pub returns-in-Err-Memory-clause-err : goal.returns-in-Err-Memory-clause-err
returns-in-Err-Memory-clause-err c = inl tt
