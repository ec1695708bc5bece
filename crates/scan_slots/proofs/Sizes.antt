-- The bounds on sizes.
use Rattle.std.proofs.Common.{◌≡◌, inl, inr, ◌+◌, ◌<◌, ◌≤◌, List, [], ◌∷◌, map, length, Bool, true, false, lt-ltb, refl, sym, ap, ◌∙◌}
use Rattle.std.proofs.Common.{arith}
use Rattle.std.proofs.lemmas.Bool.{cases_lt}
use Rattle.std.proofs.lemmas.List.{length-map}
use Rattle.std.proofs.lemmas.List.Elements.{All-nil}
use Rattle.mir_func.specs.declared.debug_substitution.DebugSubstitution.{DebugSubstitution}
use Rattle.mir_func.specs.Function.{Function}
use Rattle.mir_func.specs.Limits.{MAX_SLOTS}
use Rattle.pass_trait.specs.Causes.{scratch_of}
use Rattle.pass_trait.specs.Change.{change}
use Rattle.pass_trait.specs.Sizes.{greatest_number, KeepsSizes}
use Rattle.spill_code.specs.declared.spilling.SlotAssignment.{SlotAssignment}
use Rattle.scan_rule.specs.spill_proof.Whole.{spilled_by, where_spilled}
use Rattle.scan_rule.proofs.spill_proof.Sizes.{sizes_by, stays_sizes, low_first, low_second, low_scratch}
use Rattle.scan_rule.specs.scan_intervals.declared.interval.LiveInterval.{LiveInterval}
use Rattle.scan_slots.specs.Choice.{stays, all_homes, homes_unless, homes_left, settling_of}
use Rattle.scan_slots.specs.Laws.{SettledKeepsSizes}
use Rattle.scan_slots.specs.Rule.{AreLeft}
use Rattle.scan_slots.proofs.MaySettle.{parts}

by_stays : (z : Bool) (hs : List SlotAssignment) → (homes_unless z hs ≡ [] → ⊥) → z ≡ false
by_stays true hs some = absurd (some refl)
by_stays false hs some = refl

module _ (intervals : List LiveInterval) (f : Function) (subs : List DebugSubstitution) (left : AreLeft f intervals) where
  few_of : stays f intervals ≡ false → length (map (λ (i : LiveInterval). i.register) intervals) ≤ MAX_SLOTS
  few_of goes =
      let long = length-map intervals (λ (i : LiveInterval). i.register) in
      elim (cases_lt MAX_SLOTS (length f.slots + length f.objects + length intervals))
      as (λ _. length (map (λ (i : LiveInterval). i.register) intervals) ≤ MAX_SLOTS) [
        | inl lt ↦ (let bad : false ≡ true = sym (parts f intervals left goes).2 ∙
            lt-ltb MAX_SLOTS (length f.slots + length f.objects + length intervals) lt in cc)
        | inr ge ↦ omega (arith, ge, long)
      ]

  by_homes : (hs : List SlotAssignment) → homes_left f intervals ≡ hs →
      KeepsSizes 4 1 (change f subs (where_spilled hs f (spilled_by (settling_of f intervals) [] (greatest_number f subs + 1) f)) subs)
  by_homes [] e = stays_sizes f subs
  by_homes (h ∷ hs) e =
      let goes = by_stays (stays f intervals) (all_homes f intervals) (λ none. (let bad : h ∷ hs ≡ [] = sym e ∙ none in cc)) in
      sizes_by (settling_of f intervals) [] (map (λ (i : LiveInterval). i.register) intervals) f subs
      (ap (λ (z : Bool). homes_unless z (all_homes f intervals)) goes) (few_of goes) (omega arith)
      (All-nil (λ (h : SlotAssignment). h.register < 32)) (low_first (scratch_of f) (low_scratch f)) (low_second (scratch_of f) (low_scratch f)) (h ∷ hs)

pub settled_keeps_sizes : SettledKeepsSizes
settled_keeps_sizes intervals f subs left = by_homes intervals f subs left (homes_left f intervals) refl
