use Rattle.std.proofs.Common.{◌≡◌, ◌-◌, ◌<◌, ◌≤◌, length}
use Rattle.value_tracker.specs.Chains.{key_of, IsPartOf}
use Rattle.value_tracker.proofs.Chaining.{PastFrom}
use Rattle.value_tracker.proofs.pass.mark.Given as goal

abbrev pub invariant-loop-end : goal.invariant-loop-end
invariant-loop-end l = record {
  count : length l.parts.items ≡ length l.variables;
  within : l.end ≤ length l.variables;
  last : 0 < l.end → IsPartOf l.variables (key_of l.variable) (l.end - 1);
  past : PastFrom l.variables l.variable l.class l.initial.parts.items l.end l.parts.items;
}

abbrev pub decreases-loop-end : goal.decreases-loop-end
decreases-loop-end l = l.end
