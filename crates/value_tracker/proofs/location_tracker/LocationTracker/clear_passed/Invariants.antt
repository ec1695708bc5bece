use Rattle.std.proofs.Common.{◌≡◌, ◌-◌, ◌*◌, ℕ, cond, get_or, length, take}
use Rattle.std.specs.Prelude.{◌&&◌, nat_le}
use Rattle.std.specs.List.{list_any}
use Rattle.rv64_instr.specs.LocationEffects.{is_outgoing}
use Rattle.value_tracker.proofs.location_tracker.LocationTracker.clear_passed.Given as goal

abbrev pub invariant-loop-operand : goal.invariant-loop-operand
invariant-loop-operand l = record {
  places : (i : ℕ) → get_or l.self.places.items i 0
      ≡ cond (nat_le 32 i && list_any (is_outgoing (8 * (i - 32))) (take l.operand-index l.operands)) 0 (get_or l.initial.self.places.items i 0);
  count : length l.self.places.items ≡ 286;
  pairs : l.self.pairs ≡ l.initial.self.pairs;
  parts : l.self.parts ≡ l.initial.self.parts;
  next : l.self.next ≡ l.initial.self.next;
}
