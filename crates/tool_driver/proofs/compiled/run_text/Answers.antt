-- A run is of a function that is there.
use Rattle.std.proofs.Common.{◌≡◌, ℕ, List, refl, sym, subst}
use Rattle.selftest_command.specs.run_command.Source.{IsUnknown}
use Rattle.read_program.specs.declared.closing.Parsed.{Parsed}
use Rattle.cli.specs.declared.command.Command.TheVariants.{Run}
use Rattle.tool_driver.specs.Refusals.{unknown_function}
use Rattle.tool_driver.proofs.AnswerLemmas.{by_compiling, run_named}
use Rattle.tool_driver.proofs.compiled.run_text.Goals as goal

along : (fs gs : List Parsed) (name other : List ℕ) → fs ≡ gs → name ≡ other → IsUnknown name fs → IsUnknown other gs
along fs gs name other same named unknown =
    subst (λ (n : List ℕ). IsUnknown n gs) named (subst (λ (hs : List Parsed). IsUnknown name hs) same unknown)

pub returns-then-is_unknown-clause-err : goal.returns-then-is_unknown-clause-err
returns-then-is_unknown-clause-err c =
    unknown_function c.args.asked refl
    (along c.as_slice.result.now c.args.program.now.functions c.as_slice-2.result.now c.args.asked.name c.as_slice.ensures c.as_slice-2.ensures
    (c.is_unknown.ensures.0 c.if-is_unknown.true))

pub returns-in-Err-clause-err : goal.returns-in-Err-clause-err
returns-in-Err-clause-err c =
    by_compiling (Run c.args.asked) c.args.program.now c.args.asked.plan refl
    (run_named c.args.asked c.args.program.now
    (λ unknown.
    let holds = c.is_unknown.ensures.1 (along c.args.program.now.functions c.as_slice.result.now c.args.asked.name c.as_slice-2.result.now
    (sym c.as_slice.ensures) (sym c.as_slice-2.ensures) unknown) in
    cc))
    c.in-Err.fault c.in-Err.ensures.err
