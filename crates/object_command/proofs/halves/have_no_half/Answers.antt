use Rattle.std.proofs.Common.{rules}
use Rattle.std.proofs.lemmas.Iterator.{cases_from_all, YieldsList-from_slice}
use Rattle.mir_func.proofs.Checks.{both_from_all}
use Rattle.object_command.specs.Object.{HasNoHalf}
use Rattle.object_command.proofs.halves.have_no_half.Goals as goal

pub returns : goal.returns
returns c =
    both_from_all HasNoHalf c.args.functions.now c.all.result
    (cases_from_all _ _ _ HasNoHalf (λ f. HasNoHalf f → ⊥) c.all.ensures.ran (YieldsList-from_slice c.args.functions.now c.iter.ensures.rest)
    (λ x q k. search rules) (λ x q k. search rules))
