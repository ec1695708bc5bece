use Rattle.std.proofs.Common.{◌≡◌}
use Rattle.pass_liveness.specs.Sets.{has}
use Rattle.dce_stale.specs.Sets.{Handed}
use Rattle.scan_choice.specs.Given.{given_by}
use Rattle.scan_stale.specs.Flow.{stale_at, IsHanded}
use Rattle.scan_stale.proofs.walk.walk_items.Given as goal

abbrev pub invariant-loop-at : goal.invariant-loop-at
invariant-loop-at l = record {
  set : has l.names.slots l.set ≡ stale_at (given_by l.given) l.items l.at (has l.names.slots l.initial.set);
  starts : Handed l.names.slots l.names.blocks l.initial.starts.items l.starts.items
      (IsHanded (given_by l.given) l.items (has l.names.slots l.initial.set) l.at) l.grown;
}
