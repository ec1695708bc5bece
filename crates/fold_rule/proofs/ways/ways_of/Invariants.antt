use Rattle.std.proofs.Common.{◌≡◌, length}
use Rattle.fold_rule.specs.Tails.{ways_of}
use Rattle.fold_rule.proofs.ways.ways_of.Given as goal

abbrev pub invariant-loop-i : goal.invariant-loop-i
invariant-loop-i l = ways_of l.rest l.fall ≡ ways_of l.items l.fall

abbrev pub decreases-loop-i : goal.decreases-loop-i
decreases-loop-i l = length l.rest
