use Rattle.std.specs.Prelude.{All, Err}
use Rattle.std.proofs.Common.{◌≡◌, ◌≤◌, ◌<◌, ◌+◌, ◌^◌, length, ap, sym, subst}
use Rattle.elf_object.specs.declared.object.Object.{Object}
use Rattle.elf_object.specs.Spelling.{spelling}
use Rattle.elf_object.specs.Grammar.{IsNamed, IsAligned}
use Rattle.object_command.specs.declared.object.ObjectError.{ObjectError}
use Rattle.object_command.specs.declared.object.ObjectError.TheVariants.{TooLarge}
use Rattle.object_command.proofs.ObjectLemmas.{sections_named, sections_aligned, sections_few, is_object}
use Rattle.object_command.proofs.object.write.Goals as goal

pub file-requires-clause-names : goal.file-requires-clause-names
file-requires-clause-names c = subst (λ (x : Object). All IsNamed x.sections) (sym c.in-Ok.ensures.object) (sections_named c.args.output)

pub file-requires-clause-alignments : goal.file-requires-clause-alignments
file-requires-clause-alignments c = subst (λ (x : Object). All IsAligned x.sections) (sym c.in-Ok.ensures.object) (sections_aligned c.args.output)

pub file-requires-clause-count : goal.file-requires-clause-count
file-requires-clause-count c = subst (λ (x : Object). length x.sections + 2 < 0xff00) (sym c.in-Ok.ensures.object) (sections_few c.args.output)

pub returns-in-Ok-clause-object : goal.returns-in-Ok-clause-object
returns-in-Ok-clause-object c =
    is_object c.args.output c.in-Ok.object c.file.result c.requires.names c.in-Ok.ensures.object c.file.ensures.object

pub returns-in-Ok-clause-too_large : goal.returns-in-Ok-clause-too_large
returns-in-Ok-clause-too_large c = λ is. record {
  names = c.requires.names;
  large = subst (λ (x : Object). 2 ^ 31 ≤ length (spelling x)) c.in-Ok.ensures.object (c.file.ensures.too_large is);
}

pub returns-in-Err-clause-too_large : goal.returns-in-Err-clause-too_large
returns-in-Err-clause-too_large c = λ is.
    let same : c.in-Err.error ≡ TooLarge = cc in
    record { names = c.requires.names; large = c.in-Err.ensures.too_large (ap (λ (e : ObjectError). Err e) same) }
