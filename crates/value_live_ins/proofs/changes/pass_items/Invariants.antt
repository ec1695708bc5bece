use Rattle.std.proofs.Common.{◌≡◌, length, take}
use Rattle.mir_func.specs.declared.item.Item.{Item}
use Rattle.mir_func.specs.Sound.{HasForm}
use Rattle.value_tracker.specs.LocationTracker.{PLACES}
use Rattle.value_live_ins.specs.Walking.{Walked}
use Rattle.value_live_ins.proofs.Each.{EachBelow}
use Rattle.value_live_ins.proofs.changes.pass_items.Given as goal

abbrev pub invariant-loop-k : goal.invariant-loop-k
invariant-loop-k l = record {
  places : length l.held.places.items ≡ PLACES;
  parts : length l.held.parts.items ≡ length l.tracking.variables.now;
  walked : Walked l.tracking (take l.k l.items) l.held;
  forms : EachBelow (λ (i : Item). HasForm i.kind) l.k l.items;
}
