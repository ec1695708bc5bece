use Rattle.std.proofs.Common.{length, map}
use Rattle.value_proof.specs.Classes.{Classes}
use Rattle.value_solver.specs.Entry.{thing}
use Rattle.value_tracker.specs.LocationTracker.{Holds}
use Rattle.value_solver.specs.Joining.{AreWithin}
use Rattle.value_live_ins.proofs.Changing.{ChangedBelow, KeptFrom}
use Rattle.value_live_ins.proofs.changes.changes.Given as goal

abbrev pub invariant-loop-j : goal.invariant-loop-j
invariant-loop-j l = record {
  each : (class : Classes) → Holds l.tracking.variables.now (map thing l.tracking.things.now) l.tracking.index.now l.tracking.settled.now l.held class →
      ChangedBelow l.tracking.things.now class l.j l.changes;
  kept : KeptFrom l.j l.changes;
  within : AreWithin (length l.tracking.things.now) l.changes;
}
