-- The run of a compilation is that of the program's function.
use Rattle.std.proofs.Common.{◌≡◌, ℕ, List, Option, Some, None, refl, subst, rules}
use Rattle.std.specs.Prelude.{MatchOption}
use Rattle.cli.specs.declared.command.RunPlan.{RunPlan}
use Rattle.selftest_command.proofs.run_command.Runs.{compilation_can_run}
use Rattle.selftest_command.proofs.run_command.Source.{run_of_program, names_are_read}
use Rattle.selftest_command.specs.run_command.Runs.{Compilation, HasNone, IsRunOf}
use Rattle.selftest_command.specs.run_command.Source.{IsUnknown, IsRunOfProgram}
use Rattle.read_program.specs.declared.program.Program.{Program}
use Rattle.selftest_command.specs.run_command.Program.{IsCompilationOf, IsOutputOf}
use Rattle.tool_driver.specs.Refusals.{unknown_function}
use Rattle.tool_driver.specs.Compiled.{plan_steps}
use Rattle.tool_driver.proofs.compiled.run_of.Goals as goal

module _ (asked : RunPlan) (p : Program) (c : Compilation) (output : IsOutputOf (plan_steps asked.plan) p c.output) (name : List ℕ)
    (named : name ≡ asked.name) where
  ran : (is : IsCompilationOf asked.plan.reserve asked.plan.passes p c) (arguments : List ℕ) (given : arguments ≡ asked.arguments) (text : List ℕ) →
      IsRunOf c name asked.steps asked.symbols arguments asked.answers text →
      IsRunOfProgram (plan_steps asked.plan) p asked.name asked.steps asked.symbols asked.arguments asked.answers text
  ran is arguments given text run =
      run_of_program asked.plan.reserve asked.plan.passes p c output is asked.name asked.steps asked.symbols asked.arguments asked.answers
      text
      (subst (λ (n : List ℕ). IsRunOf c n asked.steps asked.symbols asked.arguments asked.answers text) named
      (subst (λ (xs : List ℕ). IsRunOf c name asked.steps asked.symbols xs asked.answers text) given run))

  unknown : HasNone name c.output.functions → IsUnknown asked.name p.functions
  unknown none =
      names_are_read asked.plan.reserve asked.plan.passes p c output asked.name (subst (λ (n : List ℕ). HasNone n c.output.functions) named none)

-- what a run gave
some_given : (o : Option (List ℕ)) (text : List ℕ) (P : Type 0) (Q : List ℕ → Type 0) → o ≡ Some text → MatchOption o P Q → Q text
some_given o text P Q is given = subst (λ (x : Option (List ℕ)). MatchOption x P Q) is given

none_given : (o : Option (List ℕ)) (P : Type 0) (Q : List ℕ → Type 0) → o ≡ None → MatchOption o P Q → P
none_given o P Q is given = subst (λ (x : Option (List ℕ)). MatchOption x P Q) is given

pub run-requires : goal.run-requires
run-requires c =
    compilation_can_run c.args.asked.plan.reserve c.args.asked.plan.passes c.args._program.now c.args.compilation.now c.requires.compilation

pub returns-in-Ok-Some-clause-ok : goal.returns-in-Ok-Some-clause-ok
returns-in-Ok-Some-clause-ok c =
    let same : c.in-Ok-Some.field-0 ≡ Some c.in-Ok-Some.text = first_of (cc, search rules) in
    ran c.args.asked c.args._program.now c.args.compilation.now c.requires.output c.as_slice.result.now c.as_slice.ensures c.requires.compilation
    c.as_slice-2.result.now c.as_slice-2.ensures c.in-Ok-Some.text
    (some_given c.in-Ok-Some.field-0 c.in-Ok-Some.text (HasNone c.as_slice.result.now c.args.compilation.now.output.functions)
    (IsRunOf c.args.compilation.now c.as_slice.result.now c.args.asked.steps c.args.asked.symbols c.as_slice-2.result.now c.args.asked.answers) same
    c.in-Ok-Some.ensures)

pub returns-in-Ok-None-clause-err : goal.returns-in-Ok-None-clause-err
returns-in-Ok-None-clause-err c =
    let same : ◌≡◌ {A = Option (List ℕ)} c.in-Ok-None.field-0 None = first_of (cc, search rules) in
    unknown_function c.args.asked refl
    (unknown c.args.asked c.args._program.now c.args.compilation.now c.requires.output c.as_slice.result.now c.as_slice.ensures
    (none_given c.in-Ok-None.field-0 (HasNone c.as_slice.result.now c.args.compilation.now.output.functions)
    (IsRunOf c.args.compilation.now c.as_slice.result.now c.args.asked.steps c.args.asked.symbols c.as_slice-2.result.now c.args.asked.answers) same
    c.in-Ok-None.ensures))
