use Rattle.std.proofs.Common.{◌≡◌}
use Rattle.pass_liveness.specs.Sets.{has}
use Rattle.dce_stale.specs.Flow.{wrong_at, IsHanded}
use Rattle.dce_stale.specs.Sets.{Handed}
use Rattle.dce_stale.proofs.walk.walk_items.Given as goal

abbrev pub invariant-loop-at : goal.invariant-loop-at
invariant-loop-at l = record {
  set : has l.names.slots l.set ≡ wrong_at l.items l.dead l.at (has l.names.slots l.initial.set);
  starts : Handed l.names.slots l.names.blocks l.initial.starts.items l.starts.items
      (IsHanded l.items l.dead (has l.names.slots l.initial.set) l.at) l.grown;
}
