use Rattle.std.proofs.Common.{◌≡◌, ◌≤◌, ◌+◌, ℕ, length, drop}
use Rattle.std.specs.Prelude.{option_map}
use Rattle.std.specs.Ordering.{nat_cmp}
use Rattle.std.specs.BTreeMap.{get}
use Rattle.mir_func.specs.Objects.{object_of}
use Rattle.emit_code.proofs.objects.offsets.Given as goal

abbrev pub invariant-loop-index : goal.invariant-loop-index
invariant-loop-index l = record {
  within : l.index ≤ length l.objects;
  found : (n : ℕ) → get nat_cmp l.offsets n ≡ option_map (λ o. l.own + o.offset) (object_of (drop l.index l.objects) n);
}

abbrev pub decreases-loop-index : goal.decreases-loop-index
decreases-loop-index l = l.index
