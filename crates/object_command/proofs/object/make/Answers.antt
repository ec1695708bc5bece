use Rattle.std.specs.Prelude.{Err}
use Rattle.std.proofs.Common.{◌≡◌, ◌≤◌, ◌^◌, length, List, ap, subst}
use Rattle.listing_text.specs.declared.output.ListedFunction.{ListedFunction}
use Rattle.object_command.specs.declared.object.ObjectError.{ObjectError}
use Rattle.object_command.specs.declared.object.ObjectError.TheVariants.{TooLarge}
use Rattle.object_command.specs.Object.{symbols_of}
use Rattle.object_command.proofs.SizeLemmas.{many_symbols}
use Rattle.object_command.proofs.object.make.Goals as goal

pub returns-in-Err-clause-too_large : goal.returns-in-Err-clause-too_large
returns-in-Err-clause-too_large c = λ is.
    let same : c.in-Err.error ≡ TooLarge = cc in
    many_symbols c.args.output
    (subst (λ (fs : List ListedFunction). 2 ^ 27 ≤ length (symbols_of fs)) c.as_slice.ensures
    (c.in-Err.ensures.too_large (ap (λ (e : ObjectError). Err e) same)))
