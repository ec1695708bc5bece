use Rattle.std.specs.Prelude.{Err}
use Rattle.std.proofs.Common.{◌≡◌, ◌∙◌, List, ap, inl, inr, subst, sym}
use Rattle.std.proofs.lemmas.Bool.{false≢true}
use Rattle.std.proofs.lemmas.Result.{err_from_is_err_and}
use Rattle.compile_function.specs.read_program.declared.closing.Parsed.{Parsed}
use Rattle.compile_function.specs.declared.error.CompileError.{CompileError}
use Rattle.compile_function.specs.declared.error.CompileError.TheVariants.{FrameTooLarge}
use Rattle.compile_program.specs.Program.{HasLargeFrame, steps_of}
use Rattle.compile_program.proofs.compile.compile.Goals as goal

pub returns-clause-section_too_large : goal.returns-clause-section_too_large
returns-clause-section_too_large c = λ large.
    elim (c.compiled.ensures.section_too_large large) [
      | inl section ↦ section
      | inr asked ↦
          elim asked [
            | inl frame ↦ absurd (false≢true frame.0)
            | inr inline ↦ absurd (false≢true inline.0)
          ]
    ]

pub returns-in_err-made-clause-frame_too_large : goal.returns-in_err-made-clause-frame_too_large
returns-in_err-made-clause-frame_too_large c is =
    let gave = err_from_is_err_and c.from_residual.result c.from_residual.ensures.1 in
    let here : gave.0 ≡ FrameTooLarge = let same = gave.1 in cc in
    subst (λ (ps : List Parsed). HasLargeFrame (steps_of c.args.reserve.now c.args.passes.now) ps) c.as_slice.ensures
    (c.in_err-made.ensures.too_large (ap (λ (e : CompileError). Err e) (sym gave.2 ∙ here)))
