use Rattle.std.specs.Prelude.{Err}
use Rattle.std.proofs.Common.{◌≡◌, ◌∙◌, ap, sym, subst}
use Rattle.std.proofs.lemmas.Result.{err_from_is_err_and}
use Rattle.std.proofs.lemmas.List.{take_all}
use Rattle.std.proofs.lemmas.List.Elements.{All-more, All-same}
use Rattle.compile_function.specs.declared.error.CompileError.TheVariants.{NoRegister}
use Rattle.compile_function.specs.Fault.{PassesError}
use Rattle.compile_function.proofs.Refused.{register_error}
use Rattle.compile_program.specs.Program.{GetsRegisters}
use Rattle.compile_program.proofs.Passed.{one_virtual}
use Rattle.compile_program.proofs.function.have_registers.Goals as goal

pub loop-source-preserved : goal.loop-source-preserved
loop-source-preserved c =
    All-more (GetsRegisters c.args.reserve.now) c.args.functions.now c.loop-source.source-index c.source-item.result c.loop-source-test.true
    c.loop-source.invariant (subst (GetsRegisters c.args.reserve.now) c.source-item.is c.in_ok-get_registers.ensures.registers)

pub returns-clause-registers : goal.returns-clause-registers
returns-clause-registers c =
    All-same (GetsRegisters c.args.reserve.now) _ _ (sym (take_all _ _ c.loop-source-test.false)) c.loop-source.invariant

pub returns-in_err-get_registers-clause-no_register : goal.returns-in_err-get_registers-clause-no_register
returns-in_err-get_registers-clause-no_register c is =
    let gave = err_from_is_err_and c.from_residual.result c.from_residual.ensures.1 in
    let here : gave.0 ≡ NoRegister = let same = gave.1 in cc in
    let virtual = c.in_err-get_registers.ensures.no_register
    (ap (λ (e : PassesError). Err e) (register_error c.in_err-get_registers.field-0.0 (sym gave.2 ∙ here))) in
    one_virtual c.args.reserve.now c.args.functions.now c.source-item.result virtual
    (c.loop-source.source-index, c.loop-source-test.true, sym c.source-item.is)
