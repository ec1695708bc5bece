-- The rule doesn't depend on positions.
use Rattle.std.proofs.Common.{◌≡◌, ◌+◌, List, [], ◌++◌, map, length, ◌||◌, nat_lt, sym, ap, ◌∙◌, subst}
use Rattle.mir_func.specs.Function.{Function}
use Rattle.mir_func.specs.Limits.{MAX_SLOTS}
use Rattle.pass_trait.specs.Code.{originless_block, originless}
use Rattle.spill_code.specs.declared.spilling.SlotAssignment.{SlotAssignment}
use Rattle.spill_code.specs.Rewrite.{spilled_blocks}
use Rattle.scan_rule.specs.spill_rule.Choice.{first_scratch, second_scratch}
use Rattle.scan_rule.specs.spill_rule.Laws.{scratch_same, blocks_originless}
use Rattle.scan_rule.specs.scan_intervals.declared.interval.LiveInterval.{LiveInterval}
use Rattle.scan_rule.specs.scan_intervals.Liveness.{at_starts}
use Rattle.scan_rule.specs.scan_intervals.Points.{CodePoint}
use Rattle.scan_rule.specs.scan_intervals.Intervals.{AreIntervals}
use Rattle.scan_rule.proofs.Originless.{adds_same, decides_originless, points_originless}
use Rattle.scan_slots.specs.Choice.{stays, all_homes, homes_unless, settling_of, settled}
use Rattle.scan_slots.specs.Laws.{SettlingSeesCodeAlone}
use Rattle.scan_slots.specs.Rule.{AreLeft}
use Rattle.scan_slots.proofs.One.{one_left}

left_originless : (f : Function) (intervals : List LiveInterval) → AreLeft f intervals → AreLeft (originless f) intervals
left_originless f intervals a = record {
  live = a.live;
  decides = decides_originless f a.live a.decides;
  are = subst (λ (ps : List CodePoint). AreIntervals ps intervals) (sym (points_originless (at_starts a.live) f.blocks)) a.are;
}

module _ (intervals : List LiveInterval) (f : Function) where
  stays_same : stays (originless f) intervals ≡ stays f intervals
  stays_same t = nat_lt (length (scratch_same f t)) 2 || (adds_same f t || nat_lt MAX_SLOTS (length f.slots + length f.objects + length intervals))

  settling_same : settling_of (originless f) intervals ≡ settling_of f intervals
  settling_same t = record {
    first = first_scratch (scratch_same f t);
    second = second_scratch (scratch_same f t);
    homes = homes_unless (stays_same t) (all_homes f intervals);
  }

  settled_originless : originless (settled intervals (originless f)) ≡ originless (settled intervals f)
  settled_originless =
      let ss = settling_same in
      let first : originless (settled intervals (originless f)) ≡ originless (record f {
        slots = f.slots ++ map (λ (h : SlotAssignment). h.slot) (settling_of f intervals).homes;
        blocks = spilled_blocks (settling_of f intervals) [] (map originless_block f.blocks);
      }) = λ t. record f {
        slots = f.slots ++ map (λ (h : SlotAssignment). h.slot) (ss t).homes;
        blocks = map originless_block (spilled_blocks (ss t) [] (map originless_block f.blocks));
      } in
      first ∙ (λ t. record f {
        slots = f.slots ++ map (λ (h : SlotAssignment). h.slot) (settling_of f intervals).homes;
        blocks = blocks_originless (settling_of f intervals) [] f.blocks t;
      })

pub settling_sees_code_alone : SettlingSeesCodeAlone
settling_sees_code_alone f f' g g' alike (xs, a, e) (ys, b, e') =
    let there : AreLeft (originless f') xs = subst (λ (h : Function). AreLeft h xs) alike (left_originless f xs a) in
    let same : xs ≡ ys = one_left (originless f') xs ys there (left_originless f' ys b) in
    ap originless e ∙ sym (settled_originless xs f) ∙ (λ t. originless (settled (same t) (alike t))) ∙ settled_originless ys f' ∙ sym (ap originless e')
