use Rattle.std.proofs.Common.{rules}
use Rattle.std.proofs.lemmas.Iterator.{cases_from_all, YieldsList-from_slice}
use Rattle.mir_func.specs.declared.object.Object.{Object}
use Rattle.mir_func.specs.Objects.{IsFixedAt}
use Rattle.mir_func.proofs.Checks.{both_from_all}
use Rattle.mir_func.proofs.sound_objects.are_fixed.Goals as goal

pub returns : goal.returns
returns c =
    let P : Object → Type 0 = λ o. IsFixedAt c.args.area o.offset o.fixed_offset in
    both_from_all P c.args.objects.now c.all.result
    (cases_from_all _ _ _ P (λ o. P o → ⊥) c.all.ensures.ran (YieldsList-from_slice c.args.objects.now c.iter.ensures.rest)
    (λ x q k. search rules) (λ x q k. search rules))
