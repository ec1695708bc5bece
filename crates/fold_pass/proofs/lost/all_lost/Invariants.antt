use Rattle.std.proofs.Common.{◌≡◌, take, nat_eq}
use Rattle.std.specs.HashSet.{contains}
use Rattle.fold_targets.specs.Ends.{told, end_in}
use Rattle.fold_proof.specs.Lost.{all_lost}
use Rattle.fold_pass.proofs.lost.all_lost.Given as goal

abbrev pub invariant-loop-b : goal.invariant-loop-b
invariant-loop-b l = l.losses.items ≡
    all_lost (end_in l.ways.ends) (contains nat_eq l.ways.reached) (told l.ways.leads) (take l.b-index l.blocks)
