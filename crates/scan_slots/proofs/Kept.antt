-- The step, put together.
use Rattle.std.proofs.Common.{◌≡◌, inl, inr, ℕ, zero, suc, ◌+◌, ◌<◌, List, [], ◌∷◌, length, get_or, All, Contains, append-nil, refl, sym, ap, ◌∙◌, subst, arith}
use Rattle.std.proofs.lemmas.List.Elements.{All-nil}
use Rattle.mir_func.specs.declared.debug_substitution.DebugSubstitution.{DebugSubstitution}
use Rattle.mir_func.specs.declared.item.Item.{Item}
use Rattle.mir_func.specs.Function.{Function}
use Rattle.mir_func.specs.Sound.{IsSound, items_of}
use Rattle.pass_trait.specs.declared.loss.Loss.{Loss}
use Rattle.pass_trait.specs.Change.{Change, change}
use Rattle.pass_trait.specs.Debug.{IsFor, IsLoss, KeepsItems}
use Rattle.pass_trait.specs.Order.{IsInOrder}
use Rattle.pass_trait.specs.Sizes.{greatest_number}
use Rattle.spill_code.specs.declared.spilling.SlotAssignment.{SlotAssignment}
use Rattle.spill_code.specs.declared.spilling.Spilling.{Spilling}
use Rattle.scan_rule.specs.spill_debug.Lost.{LosesScratch, AreScratchLosses}
use Rattle.scan_rule.specs.spill_proof.Kept.{AreTaken}
use Rattle.scan_rule.proofs.spill_proof.Blocks.{all_become}
use Rattle.scan_rule.proofs.spill_proof.Standing.{among, standing}
use Rattle.scan_rule.specs.scan_intervals.declared.interval.LiveInterval.{LiveInterval}
use Rattle.scan_slots.specs.Choice.{homes_left, settling_of, settled_whole}
use Rattle.scan_slots.specs.Kept.{SettledKeepsStep}
use Rattle.scan_slots.specs.Rule.{AreLeft}
use Rattle.scan_slots.specs.Step.{settle_debug}
use Rattle.scan_slots.proofs.Causes.{has_cause, is_new}
use Rattle.scan_slots.proofs.Following.{settled_is_sound}
use Rattle.scan_slots.proofs.Made.{settled_is_made}
use Rattle.scan_slots.proofs.One.{one_left}
use Rattle.scan_slots.proofs.Ruled.{settle_is_ruled}

nth_in : (xs : List Loss) (k : ℕ) (d : Loss) → k < length xs → Contains xs (get_or xs k d)
nth_in [] k d lt = absurd (omega (arith, lt))
nth_in (x ∷ xs) zero d lt = (0, omega arith, refl)
nth_in (x ∷ xs) (suc k) d lt = let w = nth_in xs k d (omega (arith, lt)) in (suc w.0, (let within = w.1 in omega (arith, within)), w.2)

none_in : (xs : List Loss) (l : Loss) → xs ≡ [] → Contains xs l → ⊥
none_in [] l e (k, lt, is) = omega (arith, lt)
none_in (x ∷ xs) l e k = cc

module _ (intervals : List LiveInterval) (f : Function) (subs : List DebugSubstitution) (losses : List Loss) (sound : IsSound f) (left : AreLeft f intervals)
    (taken : AreTaken (homes_left f intervals) (settling_of f intervals) f.blocks losses) where
  abbrev homes : List SlotAssignment
  homes = homes_left f intervals

  abbrev s : Spilling
  s = settling_of f intervals

  abbrev k : ℕ
  k = greatest_number f subs + 1

  abbrev c : Change
  c = change f subs (settled_whole intervals k f) subs

  none_taken : (hs : List SlotAssignment) → AreTaken hs s f.blocks losses → hs ≡ [] → losses ≡ []
  none_taken [] t e = t
  none_taken (h ∷ hs) t e = cc

  all_taken : (hs : List SlotAssignment) → AreTaken hs s f.blocks losses → (hs ≡ [] → ⊥) → AreScratchLosses s f.blocks losses
  all_taken [] t some = absurd (some refl)
  all_taken (h ∷ hs) t some = t.1

  in_order : (hs : List SlotAssignment) → AreTaken hs s f.blocks losses → IsInOrder losses
  in_order [] t = subst IsInOrder (sym t) (λ i j d lt within. absurd (omega (arith, within)))
  in_order (h ∷ hs) t = t.0

  from_item : (hs : List SlotAssignment) → homes ≡ hs → (loss : Loss) → Contains losses loss →
      (homes ≡ [] → ⊥) × ((i : Item) × Contains (items_of f.blocks) i × LosesScratch s i.kind i.origin loss)
  from_item [] e loss m = absurd (none_in losses loss (none_taken homes taken e) m)
  from_item (h ∷ hs) e loss m =
      let some : homes ≡ [] → ⊥ = λ none. (let bad : h ∷ hs ≡ [] = sym e ∙ none in cc) in
      (some, (all_taken homes taken some loss).0 m)

  is_loss : (loss : Loss) → Contains losses loss → IsLoss settle_debug c loss
  is_loss loss m =
      let w = from_item homes refl loss m in
      let at = standing f sound.blocks_apart w.1.0 w.1.1 in
      inl (at.0, record { intervals = intervals; are = left; some = w.0; item = w.1.0; stands = at.1; lost = w.1.2 })

  said : All (IsLoss settle_debug c) losses
  said n d lt = is_loss (get_or losses n d) (nth_in losses n d lt)

  told : (loss : Loss) → IsLoss settle_debug c loss → Contains losses loss
  told loss (inl (at, h)) =
      let same : h.intervals ≡ intervals = one_left f h.intervals intervals h.are left in
      let some : homes ≡ [] → ⊥ = λ none. h.some (ap (λ (xs : List LiveInterval). homes_left f xs) same ∙ none) in
      (all_taken homes taken some loss).1 (
        h.item,
        among f at h.item h.stands,
        subst (λ (xs : List LiveInterval). LosesScratch (settling_of f xs) h.item.kind h.item.origin loss) same h.lost,
      )
  told loss (inr (r, why, is, h)) = absurd h

  items : KeepsItems settle_debug c losses
  items = record {
    blocks = all_become settle_debug f subs (settled_whole intervals k f) s k (settle_is_ruled intervals f subs (settled_whole intervals k f) left) []
        sound.blocks_apart refl;
    subs = ([], sym (append-nil subs), refl, All-nil (IsFor c losses));
    said = said;
    told = told;
    ordered = in_order homes taken;
    caused = has_cause intervals k f subs left;
    left = λ r why h. absurd h;
    spilled = is_new intervals k f subs left;
    renamed = λ r now h. absurd h;
  }

pub settled_keeps_step : SettledKeepsStep
settled_keeps_step intervals f subs losses sound forms left taken = record {
  sound = settled_is_sound intervals (greatest_number f subs + 1) f subs (record { sound = sound; forms = forms; left = left; fresh = omega arith });
  code = settled_is_made intervals (greatest_number f subs + 1) f left;
  items = items intervals f subs losses sound left taken;
}
