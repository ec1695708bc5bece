use Rattle.std.proofs.Common.{◌≡◌, length}
use Rattle.value_proof.specs.Classes.{Classes}
use Rattle.value_tracker.specs.Things.{Settle}
use Rattle.value_tracker.specs.Start.{AreConstantsBelow}
use Rattle.value_tracker.proofs.class_location.constants.Given as goal

abbrev pub invariant-loop-i : goal.invariant-loop-i
invariant-loop-i l = record {
  count : length l.constants.items ≡ l.next;
  constants : (class : Classes) → Settle l.things l.settled class → AreConstantsBelow l.things l.i class l.constants.items;
}
