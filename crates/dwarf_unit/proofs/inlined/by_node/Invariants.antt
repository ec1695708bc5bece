use Rattle.std.proofs.Common.{◌≡◌, ℕ, ◌≤◌, length, drop, nat_cmp}
use Rattle.std.specs.BTreeMap.{get}
use Rattle.dwarf_unit.specs.steps.Calls.{place_from}
use Rattle.dwarf_unit.proofs.inlined.by_node.Given as goal

abbrev pub invariant-loop-k : goal.invariant-loop-k
invariant-loop-k l = record {
  within : l.k ≤ length l.instances;
  found : (n : ℕ) → get nat_cmp l.index n ≡ place_from l.k (drop l.k l.instances) n;
}

abbrev pub decreases-loop-k : goal.decreases-loop-k
decreases-loop-k l = l.k
