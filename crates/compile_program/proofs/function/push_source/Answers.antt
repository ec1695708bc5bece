use Rattle.std.specs.Prelude.{Err}
use Rattle.std.proofs.Common.{◌≡◌, ◌∙◌, ap, refl, sym}
use Rattle.std.proofs.lemmas.Result.{err_from_is_err_and}
use Rattle.compile_function.specs.declared.error.CompileError.{CompileError}
use Rattle.compile_function.specs.declared.error.CompileError.TheVariants.{NoRegister, FrameTooLarge}
use Rattle.compile_function.specs.Fault.{PassesError}
use Rattle.compile_function.specs.Passed.{passed_of}
use Rattle.compile_function.proofs.Refused.{register_error}
use Rattle.compile_program.proofs.Passed.{made_too_large}
use Rattle.compile_program.proofs.function.push_source.Goals as goal

pub push_function-requires-clause-sound : goal.push_function-requires-clause-sound
push_function-requires-clause-sound c = c.in_ok-passed.ensures.compilable.passed.follower.sound

pub push_function-requires-clause-few : goal.push_function-requires-clause-few
push_function-requires-clause-few c = c.in_ok-passed.ensures.few

pub push_function-requires-clause-calls : goal.push_function-requires-clause-calls
push_function-requires-clause-calls c = c.in_ok-passed.ensures.calls

pub push_function-requires-clause-physical : goal.push_function-requires-clause-physical
push_function-requires-clause-physical c = c.in_ok-passed.ensures.compilable.passed.physical

pub returns-clause-pushed : goal.returns-clause-pushed
returns-clause-pushed c = record {
  passed = passed_of c.args.source.now c.in_ok-passed.passed.function c.in_ok-passed.passed.substitutions;
  losses = c.in_ok-passed.passed.losses;
  source = refl;
  compilable = c.in_ok-passed.ensures.compilable;
  lost = c.in_ok-passed.ensures.made;
  pushed = c.in_ok-push_function.ensures.pushed;
}

pub returns-in_err-push_function-clause-too_large : goal.returns-in_err-push_function-clause-too_large
returns-in_err-push_function-clause-too_large c is =
    let gave = err_from_is_err_and c.from_residual-in_err-push_function.result c.from_residual-in_err-push_function.ensures.1 in
    let here : gave.0 ≡ FrameTooLarge = let same = gave.1 in cc in
    let large = c.in_err-push_function.ensures.too_large (ap (λ (e : CompileError). Err e) (sym gave.2 ∙ here)) in
    made_too_large c.args.reserve.now c.args.passes.now c.args.source.now c.in_ok-passed.passed.function c.in_ok-passed.passed.substitutions
    c.in_ok-passed.passed.losses c.args.meta.now c.in_ok-passed.ensures.made c.in_ok-passed.ensures.compilable large

pub returns-in_err-passed-clause-no_register : goal.returns-in_err-passed-clause-no_register
returns-in_err-passed-clause-no_register c is =
    let gave = err_from_is_err_and c.from_residual.result c.from_residual.ensures.1 in
    let here : gave.0 ≡ NoRegister = let same = gave.1 in cc in
    c.in_err-passed.ensures.no_register (ap (λ (e : PassesError). Err e) (register_error c.in_err-passed.field-0.0 (sym gave.2 ∙ here)))
