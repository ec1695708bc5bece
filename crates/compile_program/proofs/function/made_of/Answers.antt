use Rattle.std.specs.Prelude.{Err}
use Rattle.std.proofs.Common.{◌≡◌, ◌∙◌, ap, sym}
use Rattle.std.proofs.lemmas.Result.{err_from_is_err_and}
use Rattle.compile_function.specs.declared.error.CompileError.{CompileError}
use Rattle.compile_function.specs.declared.error.CompileError.TheVariants.{NoRegister}
use Rattle.compile_program.proofs.function.made_of.Goals as goal

pub returns-in_err-have_registers-in-Err-FrameTooLarge-clause-no_register :
    goal.returns-in_err-have_registers-in-Err-FrameTooLarge-clause-no_register
returns-in_err-have_registers-in-Err-FrameTooLarge-clause-no_register c is =
    let gave = err_from_is_err_and c.from_residual.result c.from_residual.ensures.1 in
    let here : gave.0 ≡ NoRegister = let same = gave.1 in cc in
    c.in_err-have_registers-in-Err-FrameTooLarge.ensures.no_register (ap (λ (e : CompileError). Err e) (sym gave.2 ∙ here))

pub returns-in_ok-have_registers-in-Err-FrameTooLarge-clause-too_large :
    goal.returns-in_ok-have_registers-in-Err-FrameTooLarge-clause-too_large
returns-in_ok-have_registers-in-Err-FrameTooLarge-clause-too_large c is = c.in-Err-FrameTooLarge.ensures.too_large cc
