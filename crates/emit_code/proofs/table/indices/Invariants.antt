use Rattle.std.proofs.Common.{◌≡◌, ◌≤◌, ℕ, length, drop}
use Rattle.std.specs.Ordering.{nat_cmp}
use Rattle.std.specs.BTreeMap.{get}
use Rattle.emit_code.specs.steps.Places.{index_in}
use Rattle.emit_code.proofs.table.indices.Given as goal

abbrev pub invariant-loop-index : goal.invariant-loop-index
invariant-loop-index l = record {
  within : l.index ≤ length l.blocks;
  none : l.index ≡ 0 → length l.blocks ≡ 0;
  found : (n : ℕ) → get nat_cmp l.indices n ≡ index_in l.index (drop l.index l.blocks) n;
}

abbrev pub decreases-loop-index : goal.decreases-loop-index
decreases-loop-index l = l.index
