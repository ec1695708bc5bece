use Rattle.std.proofs.Common.{rules}
use Rattle.std.proofs.lemmas.Iterator.{cases_from_all, YieldsList-from_slice}
use Rattle.mir_func.specs.Sound.{IsSoundObject}
use Rattle.mir_func.proofs.Checks.{both_from_all}
use Rattle.mir_func.proofs.sound_objects.are_each_sound.Goals as goal

pub returns : goal.returns
returns c =
    both_from_all IsSoundObject c.args.objects.now c.all.result
    (cases_from_all _ _ _ IsSoundObject (λ o. IsSoundObject o → ⊥) c.all.ensures.ran (YieldsList-from_slice c.args.objects.now c.iter.ensures.rest)
    (λ x q k. search rules) (λ x q k. search rules))
