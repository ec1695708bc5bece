use Rattle.std.proofs.Common.{◌≡◌, take, map}
use Rattle.pass_trait.specs.Rule.{number_lost}
use Rattle.pass_trait.proofs.nops.lost_numbers.Given as goal

abbrev pub invariant-loop-n : goal.invariant-loop-n
invariant-loop-n l = l.losses ≡ map (λ n. number_lost n l.why) (take l.n-index l.n-items)
