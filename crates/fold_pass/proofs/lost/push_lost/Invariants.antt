use Rattle.std.proofs.Common.{◌≡◌, ◌++◌, take}
use Rattle.fold_proof.specs.Lost.{lost_in}
use Rattle.fold_pass.proofs.lost.push_lost.Given as goal

abbrev pub invariant-loop-i : goal.invariant-loop-i
invariant-loop-i l = l.losses.items ≡ l.initial.losses.items ++ lost_in l.reason (take l.i-index l.items)
