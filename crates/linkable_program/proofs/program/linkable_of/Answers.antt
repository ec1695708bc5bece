use Rattle.std.specs.Prelude.{Err}
use Rattle.std.proofs.Common.{◌≡◌, ap, inl}
use Rattle.object_command.specs.declared.object.ObjectError.{ObjectError}
use Rattle.object_command.specs.declared.object.ObjectError.TheVariants.{TooLarge}
use Rattle.linkable_program.proofs.program.linkable_of.Goals as goal

pub returns-in-Err-clause-large : goal.returns-in-Err-clause-large
returns-in-Err-clause-large c = λ is.
    let same : c.in-Err.error ≡ TooLarge = cc in inl (c.in-Err.ensures.large (ap (λ (e : ObjectError). Err e) same))
