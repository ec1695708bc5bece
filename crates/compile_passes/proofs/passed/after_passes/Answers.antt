use Rattle.std.proofs.lemmas.Result.{err_from_is_err_and}
use Rattle.compile_passes.proofs.passed.after_passes.Goals as goal

pub returns-in_err-allocated-clause-no_register : goal.returns-in_err-allocated-clause-no_register
returns-in_err-allocated-clause-no_register c is =
    let p = err_from_is_err_and c.from_residual.result c.from_residual.ensures.1 in
    c.in_err-allocated.ensures.no_register (rw (← p.2, ← p.1) is)
