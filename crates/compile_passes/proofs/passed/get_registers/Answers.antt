use Rattle.std.specs.Prelude.{Err}
use Rattle.std.proofs.Common.{◌≡◌, ap, sym, ◌∙◌}
use Rattle.std.proofs.lemmas.Result.{err_from_is_err_and}
use Rattle.compile_passes.specs.declared.error.PassesError.{PassesError}
use Rattle.compile_passes.specs.declared.error.PassesError.TheVariants.{NoRegister}
use Rattle.compile_passes.proofs.passed.get_registers.Goals as goal

pub returns-in_err-_allocated-clause-no_register : goal.returns-in_err-_allocated-clause-no_register
returns-in_err-_allocated-clause-no_register c = λ is.
    let gave = err_from_is_err_and c.from_residual.result c.from_residual.ensures.1 in
    let here : gave.0 ≡ NoRegister = let same = gave.1 in cc in
    c.in_err-_allocated.ensures.no_register (ap (λ (e : PassesError). Err e) (sym gave.2 ∙ here))
