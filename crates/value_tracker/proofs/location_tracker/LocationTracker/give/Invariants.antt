use Rattle.std.proofs.Common.{◌≡◌, ℕ, cond, nat_eq, nat_lt}
use Rattle.std.specs.Prelude.{◌&&◌, slice_get}
use Rattle.std.specs.HashMap.{get}
use Rattle.mir_substitution.specs.Index.{is_key}
use Rattle.sem_mir.specs.Step.{defined}
use Rattle.value_tracker.specs.LocationTracker.{operand_class}
use Rattle.value_tracker.proofs.location_tracker.LocationTracker.give.Given as goal

abbrev pub invariant-loop-o : goal.invariant-loop-o
invariant-loop-o l = record {
  pairs : (m p : ℕ) → get is_key l.self.pairs (m, p) ≡
      cond (nat_eq l.k m && nat_lt p l.o)
      (operand_class l.initial.self.places.items (defined l.call (slice_get l.operands p)) (get is_key l.initial.self.pairs (m, p)))
      (get is_key l.initial.self.pairs (m, p));
  places : l.self.places ≡ l.initial.self.places;
  parts : l.self.parts ≡ l.initial.self.parts;
  next : l.self.next ≡ l.initial.self.next;
}
