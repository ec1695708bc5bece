use Rattle.std.proofs.Common.{ℕ, ◌<◌, ◌≤◌, ◌-◌, length, get_or}
use Rattle.dwarf_loclists.specs.declared.range.Range.{Range}
use Rattle.sim_trace.proofs.location.location_at.Given as goal

abbrev pub invariant-halves : goal.invariant-halves
invariant-halves l = record {
  within : l.low ≤ l.high;
  top : l.high ≤ length l.ranges;
  below : (k : ℕ) (d : Range) → k < length l.ranges → k < l.low → (get_or l.ranges k d).hi ≤ l.address;
  above : (k : ℕ) (d : Range) → k < length l.ranges → l.high ≤ k → l.address < (get_or l.ranges k d).lo;
}

abbrev pub decreases-halves : goal.decreases-halves
decreases-halves l = l.high - l.low
