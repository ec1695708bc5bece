-- The code after the step.
use Rattle.std.proofs.Common.{◌≡◌, ℕ, List, [], ◌∷◌, ◌++◌, map, append-nil, nat_lt, length, ◌+◌, ◌||◌, refl, sym, ap, ◌∙◌, subst}
use Rattle.mir_func.specs.declared.block.Block.{Block}
use Rattle.mir_func.specs.Function.{Function}
use Rattle.mir_func.specs.Limits.{MAX_SLOTS}
use Rattle.mir_func.specs.Strip.{stripped_blocks, stripped}
use Rattle.spill_code.specs.declared.spilling.SlotAssignment.{SlotAssignment}
use Rattle.spill_code.specs.declared.spilling.Spilling.{Spilling}
use Rattle.spill_code.specs.Rewrite.{spilled_blocks}
use Rattle.scan_rule.specs.spill_debug.RewrittenDebugItems.{blocks_asked}
use Rattle.scan_rule.specs.spill_proof.Whole.{spilled_by, where_spilled}
use Rattle.scan_rule.proofs.spill_proof.Bare.{scratch_bare}
use Rattle.scan_rule.proofs.spill_proof.Stripped.{asked_is_stripped, spilled_is_stripped}
use Rattle.scan_rule.specs.spill_rule.Choice.{first_scratch, second_scratch}
use Rattle.scan_rule.proofs.spill_rule.RuleFollows.{blocks_same}
use Rattle.scan_rule.specs.scan_intervals.declared.interval.LiveInterval.{LiveInterval}
use Rattle.scan_rule.specs.scan_intervals.Liveness.{at_starts}
use Rattle.scan_rule.specs.scan_intervals.Points.{CodePoint}
use Rattle.scan_rule.specs.scan_intervals.Intervals.{AreIntervals}
use Rattle.scan_rule.proofs.Bare.{points_bare, decides_bare, adds_bare}
use Rattle.scan_slots.specs.Choice.{stays, all_homes, homes_unless, homes_left, settling_of, settled, settled_whole}
use Rattle.scan_slots.specs.Rule.{AreLeft, IsSettled}

-- the intervals are those of the function without debug items
pub left_bare : (f : Function) (intervals : List LiveInterval) → AreLeft f intervals → AreLeft (stripped f) intervals
left_bare f intervals a = record {
  live = a.live;
  decides = decides_bare f a.live a.decides;
  are = subst (λ (ps : List CodePoint). AreIntervals ps intervals) (sym (points_bare (at_starts a.live) f.blocks)) a.are;
}

module _ (intervals : List LiveInterval) (k : ℕ) (f : Function) where
  abbrev s : Spilling
  s = settling_of f intervals

  stays_bare : stays (stripped f) intervals ≡ stays f intervals
  stays_bare t = nat_lt (length (scratch_bare f t)) 2 || (adds_bare f t || nat_lt MAX_SLOTS (length f.slots + length f.objects + length intervals))

  settling_bare : settling_of (stripped f) intervals ≡ s
  settling_bare t = record {
    first = first_scratch (scratch_bare f t);
    second = second_scratch (scratch_bare f t);
    homes = homes_unless (stays_bare t) (all_homes f intervals);
  }

  abbrev made : Spilling → List Block → Function
  made t bs = record f { slots = f.slots ++ map (λ (h : SlotAssignment). h.slot) t.homes; blocks = spilled_blocks t [] bs }

  by_choice : settled intervals (stripped f) ≡ made s (stripped_blocks f.blocks)
  by_choice = ap (λ (t : Spilling). made t (stripped_blocks f.blocks)) settling_bare

  bare_asked : stripped_blocks (blocks_asked s k f.blocks) ≡ stripped_blocks f.blocks
  bare_asked = ap (λ (g : Function). g.blocks) (asked_is_stripped s k f)

  code_settled : stripped (spilled_by s [] k f) ≡ settled intervals (stripped f)
  code_settled =
      ap (λ (bs : List Block). record f { slots = f.slots ++ map (λ (h : SlotAssignment). h.slot) s.homes; blocks = bs })
      (spilled_is_stripped s [] (blocks_asked s k f.blocks) ∙ ap (spilled_blocks s []) bare_asked) ∙ sym by_choice

  -- where no register gets a slot
  code_stays : homes_left f intervals ≡ [] → stripped f ≡ settled intervals (stripped f)
  code_stays none =
      sym (by_choice ∙ ap (λ (hs : List SlotAssignment). made (record { first = s.first; second = s.second; homes = hs }) (stripped_blocks f.blocks)) none ∙
      (λ i. record f { slots = append-nil f.slots i; blocks = blocks_same s.first s.second (stripped_blocks f.blocks) i }))

  code_by : (hs : List SlotAssignment) → homes_left f intervals ≡ hs →
      stripped (where_spilled hs f (spilled_by s [] k f)) ≡ settled intervals (stripped f)
  code_by [] e = code_stays e
  code_by (h ∷ hs) e = code_settled

pub settled_is_made : (intervals : List LiveInterval) (k : ℕ) (f : Function) → AreLeft f intervals → IsSettled (stripped f) (stripped (settled_whole intervals k f))
settled_is_made intervals k f a = (intervals, left_bare f intervals a, code_by intervals k f (homes_left f intervals) refl)
