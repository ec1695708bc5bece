-- The new slots are apart, and few enough.
use Rattle.std.proofs.Common.{◌≡◌, ℕ, suc, ◌+◌, ◌≤◌, List, [], ◌∷◌, ◌++◌, map, length, Bool, true, false, nat_lt, lt-ltb, inl, inr, refl, sym}
use Rattle.std.proofs.Common.{ap, ◌∙◌, subst, arith}
use Rattle.std.proofs.lemmas.Bool.{cases_lt}
use Rattle.std.proofs.lemmas.List.{length-map, length-append}
use Rattle.mir_func.specs.Function.{Function}
use Rattle.mir_func.specs.Limits.{MAX_SLOTS}
use Rattle.mir_func.specs.Sound.{AreApart}
use Rattle.spill_code.specs.declared.spilling.SlotAssignment.{SlotAssignment}
use Rattle.scan_rule.specs.spill_proof.Sound.{slots_now}
use Rattle.scan_rule.proofs.spill_proof.Slots.{below_next, apart_more}
use Rattle.scan_rule.specs.spill_rule.Choice.{next_slot, homes_from}
use Rattle.scan_rule.specs.scan_intervals.declared.interval.LiveInterval.{LiveInterval}
use Rattle.scan_slots.specs.Choice.{all_homes, settling_of, homes_unless, stays}

abbrev slot : SlotAssignment → ℕ
slot h = h.slot

long_homes : (m : ℕ) (rs : List ℕ) → length (homes_from m rs) ≡ length rs
long_homes m [] = refl
long_homes m (r ∷ rs) = ap suc (long_homes (m + 1) rs)

module _ (f : Function) (intervals : List LiveInterval) (goes : stays f intervals ≡ false)
    (few : nat_lt MAX_SLOTS (length f.slots + length f.objects + length intervals) ≡ false) where
  homes_are : homes_unless (stays f intervals) (all_homes f intervals) ≡ all_homes f intervals
  homes_are = ap (λ (z : Bool). homes_unless z (all_homes f intervals)) goes

  pub slots_apart : AreApart f.slots → AreApart (slots_now (settling_of f intervals) f)
  slots_apart apart =
      subst (λ (hs : List SlotAssignment). AreApart (f.slots ++ map slot hs)) (sym homes_are)
      (apart_more f.slots (next_slot f.slots) (map (λ (i : LiveInterval). i.register) intervals) apart (below_next f.slots))

  how_many : length (map slot (all_homes f intervals)) ≡ length intervals
  how_many =
      length-map (all_homes f intervals) slot ∙ long_homes (next_slot f.slots) (map (λ (i : LiveInterval). i.register) intervals) ∙
      length-map intervals (λ (i : LiveInterval). i.register)

  pub few_slots : length (slots_now (settling_of f intervals) f) + length f.objects ≤ MAX_SLOTS
  few_slots =
      let all : length (f.slots ++ map slot (all_homes f intervals)) ≡ length f.slots + length intervals =
      length-append f.slots (map slot (all_homes f intervals)) ∙ ap (λ (n : ℕ). length f.slots + n) how_many in
      subst (λ (hs : List SlotAssignment). length (f.slots ++ map slot hs) + length f.objects ≤ MAX_SLOTS) (sym homes_are)
      (elim (cases_lt MAX_SLOTS (length f.slots + length f.objects + length intervals))
      as (λ _. length (f.slots ++ map slot (all_homes f intervals)) + length f.objects ≤ MAX_SLOTS) [
        | inl lt ↦ (let bad : false ≡ true = sym few ∙ lt-ltb MAX_SLOTS (length f.slots + length f.objects + length intervals) lt in cc)
        | inr ge ↦ omega (arith, ge, all)
      ])
