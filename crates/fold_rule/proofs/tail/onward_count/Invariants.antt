use Rattle.std.proofs.Common.{◌≡◌, ◌+◌, length}
use Rattle.fold_rule.specs.steps.Onward.{onward_count}
use Rattle.fold_rule.proofs.tail.onward_count.Given as goal

abbrev pub invariant-loop-i : goal.invariant-loop-i
invariant-loop-i l = record {
  count : l.count + onward_count l.rest ≡ onward_count l.items;
  long : l.count + length l.rest ≡ length l.items;
}

abbrev pub decreases-loop-i : goal.decreases-loop-i
decreases-loop-i l = length l.rest
