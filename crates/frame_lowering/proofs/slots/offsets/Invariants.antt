use Rattle.std.proofs.Common.{◌≡◌, ◌≤◌, ℕ, length, drop}
use Rattle.std.specs.Ordering.{nat_cmp}
use Rattle.std.specs.BTreeMap.{get}
use Rattle.frame_lowering.specs.steps.Framing.{offset_in}
use Rattle.frame_lowering.proofs.slots.offsets.Given as goal

abbrev pub invariant-loop-index : goal.invariant-loop-index
invariant-loop-index l = record {
  within : l.index ≤ length l.slots;
  found : (n : ℕ) → get nat_cmp l.offsets n ≡ offset_in l.index (drop l.index l.slots) n;
}

abbrev pub decreases-loop-index : goal.decreases-loop-index
decreases-loop-index l = l.index
