use Rattle.std.specs.Prelude.{Err}
use Rattle.std.proofs.Common.{◌≡◌, ◌∙◌, ap, sym}
use Rattle.std.proofs.lemmas.Result.{err_from_is_err_and}
use Rattle.run_command.specs.Program.{CompileError, NoRegister, FrameTooLarge, SectionTooLarge, steps_of}
use Rattle.selftest_command.proofs.Joined.{texts_of, virtual_of, frame_of, section_of}
use Rattle.selftest_command.proofs.text.self_test.Goals as goal

pub returns-in_err-compilation-clause-no_register : goal.returns-in_err-compilation-clause-no_register
returns-in_err-compilation-clause-no_register c is =
    let gave = err_from_is_err_and c.from_residual-in_err-compilation.result c.from_residual-in_err-compilation.ensures.1 in
    let here : gave.0 ≡ NoRegister = let same = gave.1 in cc in
    virtual_of c.args.number c.args.blocks c.in_ok-program.program c.in_ok-program.ensures.is c.args.reserve.now
    (c.in_err-compilation.ensures.no_register (ap (λ (e : CompileError). Err e) (sym gave.2 ∙ here)))

pub returns-in_err-compilation-clause-frame_too_large : goal.returns-in_err-compilation-clause-frame_too_large
returns-in_err-compilation-clause-frame_too_large c is =
    let gave = err_from_is_err_and c.from_residual-in_err-compilation.result c.from_residual-in_err-compilation.ensures.1 in
    let here : gave.0 ≡ FrameTooLarge = let same = gave.1 in cc in
    frame_of c.args.number c.args.blocks c.in_ok-program.program c.in_ok-program.ensures.is (steps_of c.args.reserve.now c.args.passes.now)
    (c.in_err-compilation.ensures.frame_too_large (ap (λ (e : CompileError). Err e) (sym gave.2 ∙ here)))

pub returns-in_err-compilation-clause-section_too_large : goal.returns-in_err-compilation-clause-section_too_large
returns-in_err-compilation-clause-section_too_large c is =
    let gave = err_from_is_err_and c.from_residual-in_err-compilation.result c.from_residual-in_err-compilation.ensures.1 in
    let here : gave.0 ≡ SectionTooLarge = let same = gave.1 in cc in
    section_of c.args.number c.args.blocks c.in_ok-program.program c.in_ok-program.ensures.is (steps_of c.args.reserve.now c.args.passes.now)
    (c.in_err-compilation.ensures.section_too_large (ap (λ (e : CompileError). Err e) (sym gave.2 ∙ here)))

pub returns-clause-text : goal.returns-clause-text
returns-clause-text c =
    texts_of c.args.number c.args.blocks c.in_ok-program.program c.in_ok-program.ensures.is c.requires.some c.requires.few c.args.reserve.now c.args.passes.now
    c.in_ok-compilation.compilation c.in_ok-compilation.ensures.compilation c.in_ok-text.text c.in_ok-compilation.ensures.output c.in_ok-text.ensures.text
