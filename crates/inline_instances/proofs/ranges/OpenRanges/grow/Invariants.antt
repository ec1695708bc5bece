use Rattle.std.proofs.Common.{◌≡◌, ℕ, ◌-◌, ◌≤◌, [], length, get_or}
use Rattle.inline_instances.proofs.ranges.OpenRanges.grow.Given as goal

abbrev pub invariant-loop-alloc : goal.invariant-loop-alloc
invariant-loop-alloc l = record {
  same : length l.self.starts.items ≡ length l.self.ranges.items;
  within : length l.self.ranges.items ≤ l.count;
  closed : (k : ℕ) → get_or l.self.ranges.items k [] ≡ get_or l.fn.self.ranges.items k [];
  began : (k : ℕ) → get_or l.self.starts.items k 0 ≡ get_or l.fn.self.starts.items k 0;
}

abbrev pub decreases-loop-alloc : goal.decreases-loop-alloc
decreases-loop-alloc l = l.count - length l.self.ranges.items
