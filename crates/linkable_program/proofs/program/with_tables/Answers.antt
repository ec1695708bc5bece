use Rattle.std.specs.Prelude.{Err}
use Rattle.std.proofs.Common.{◌≡◌, ap, inl, inr}
use Rattle.object_command.specs.declared.object.ObjectError.{ObjectError}
use Rattle.object_command.specs.declared.object.ObjectError.TheVariants.{TooLarge}
use Rattle.linkable_program.proofs.Compiled.{object_of, file_large}
use Rattle.linkable_program.proofs.program.with_tables.Goals as goal

pub linkable-requires : goal.linkable-requires
linkable-requires c = c.requires.tables.are.writable

pub returns-in-Ok-clause-object : goal.returns-in-Ok-clause-object
returns-in-Ok-clause-object c =
    object_of c.args.lines.now c.args.program.now c.args.compilation c.args.with_frame c.args.flags c.args.tables.now c.requires.tables c.in-Ok.lists
    c.in-Ok.ensures.lists c.linkable.result c.linkable.ensures.object

pub returns-in-Ok-clause-large : goal.returns-in-Ok-clause-large
returns-in-Ok-clause-large c = λ is.
    file_large c.args.lines.now c.args.program.now c.args.compilation c.args.with_frame c.args.flags c.args.tables.now c.requires.tables c.in-Ok.lists
    c.in-Ok.ensures.lists (c.linkable.ensures.too_large is)

pub returns-in-Err-clause-large : goal.returns-in-Err-clause-large
returns-in-Err-clause-large c = λ is.
    let same : c.in-Err.error ≡ TooLarge = cc in inr (inl (c.in-Err.ensures.large (ap (λ (e : ObjectError). Err e) same)))
