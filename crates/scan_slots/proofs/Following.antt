-- Debug values that ask by DBG_PHIs, and then registers in slots.
use Rattle.std.proofs.Common.{◌≡◌, ℕ, List, [], ◌∷◌, Option, None, Bool, true, false, refl, sym, ◌∙◌}
use Rattle.mir_func.specs.declared.debug_substitution.DebugSubstitution.{DebugSubstitution}
use Rattle.mir_func.specs.declared.debug_substitution.OperandPair.{OperandPair}
use Rattle.mir_func.specs.Function.{Function}
use Rattle.mir_func.specs.Resolve.{resolve}
use Rattle.mir_func.specs.Sound.{IsSound}
use Rattle.pass_trait.specs.Change.{change}
use Rattle.pass_trait.specs.Simulation.{PreservesSimulation}
use Rattle.pass_trait.proofs.NopFollows.{following_itself}
use Rattle.spill_code.specs.declared.spilling.SlotAssignment.{SlotAssignment}
use Rattle.spill_code.specs.declared.spilling.Spilling.{Spilling}
use Rattle.scan_rule.specs.spill_debug.RewrittenDebugItems.{asked}
use Rattle.scan_rule.proofs.spill_debug.AskedSound.{asked_is_sound}
use Rattle.scan_rule.specs.spill_proof.Whole.{spilled_by, where_spilled}
use Rattle.scan_rule.proofs.spill_proof.Elsewhere.{asks_elsewhere, forms_asked}
use Rattle.scan_rule.proofs.spill_proof.Following.{asked_follows, both, all_numbers}
use Rattle.scan_rule.proofs.spill_proof.Low.{low_function}
use Rattle.scan_rule.proofs.spill_proof.Sound.{spilled_is_sound}
use Rattle.scan_rule.proofs.spill_proof.Stripped.{asked_is_stripped}
use Rattle.scan_rule.specs.spill_simulation.Follows.{MaySpill}
use Rattle.scan_rule.proofs.spill_simulation.Following.{spilled_follows}
use Rattle.scan_rule.specs.scan_intervals.declared.interval.LiveInterval.{LiveInterval}
use Rattle.scan_slots.specs.Choice.{stays, all_homes, homes_unless, homes_left, settling_of}
use Rattle.scan_slots.specs.Laws.{MayBeSettled, SettledFollows, SettledIsSound}
use Rattle.scan_slots.proofs.MaySettle.{apart_scratch, may_settle, parts}
use Rattle.scan_slots.proofs.Slots.{slots_apart, few_slots}

module _ (intervals : List LiveInterval) (k : ℕ) (f : Function) (subs : List DebugSubstitution) (may : MayBeSettled intervals k f subs) where
  abbrev s : Spilling
  s = settling_of f intervals

  abbrev g : Function
  g = asked s k f

  sound : IsSound g
  sound = asked_is_sound s k f may.sound (all_numbers k f (low_function k f subs may.fresh).0)

  by_stays : (z : Bool) (hs : List SlotAssignment) → (homes_unless z hs ≡ [] → ⊥) → z ≡ false
  by_stays true hs some = absurd (some refl)
  by_stays false hs some = refl

  module _ (some : homes_left f intervals ≡ [] → ⊥) where
    goes : stays f intervals ≡ false
    goes = by_stays (stays f intervals) (all_homes f intervals) some

    may_spill : (resolves : OperandPair → Option OperandPair) → MaySpill s [] g resolves
    may_spill resolves =
        may_settle f intervals may.left goes g (asked_is_stripped s k f) resolves refl (forms_asked s k f.blocks may.forms)
        (asks_elsewhere s (apart_scratch f intervals may.left goes) k f.blocks)

    spilled_keeps : PreservesSimulation false true (change g subs (spilled_by s [] k f) subs)
    spilled_keeps = record {
      follows = λ source fol ends. record {
        objects = fol.objects;
        follows = (spilled_follows source.function.objects source.function.blocks g (resolve source.subs) (resolve subs) s [] sound
            (may_spill (resolve subs)) fol.follows).0;
      };
      ends = λ keeps source fol whole.
          (spilled_follows source.function.objects source.function.blocks g (resolve source.subs) (resolve subs) s [] sound
          (may_spill (resolve subs)) fol.follows).1 whole;
    }

  follows_by : (hs : List SlotAssignment) → homes_left f intervals ≡ hs →
      PreservesSimulation false true (change f subs (where_spilled hs f (spilled_by s [] k f)) subs)
  follows_by [] e = following_itself f subs
  follows_by (h ∷ hs) e =
      both f g (spilled_by s [] k f) subs (asked_follows s k f subs may.sound may.fresh)
      (spilled_keeps (λ none. (let bad : h ∷ hs ≡ [] = sym e ∙ none in cc)))

  sound_by : (hs : List SlotAssignment) → homes_left f intervals ≡ hs → IsSound (where_spilled hs f (spilled_by s [] k f))
  sound_by [] e = may.sound
  sound_by (h ∷ hs) e =
      let some : homes_left f intervals ≡ [] → ⊥ = λ none. (let bad : h ∷ hs ≡ [] = sym e ∙ none in cc) in
      spilled_is_sound s [] g (λ q. None) sound (may_spill some (λ q. None))
      (slots_apart f intervals (goes some) (parts f intervals may.left (goes some)).2 may.sound.slots_apart)
      (few_slots f intervals (goes some) (parts f intervals may.left (goes some)).2)

pub settled_follows : SettledFollows
settled_follows intervals k f subs may = follows_by intervals k f subs may (homes_left f intervals) refl

pub settled_is_sound : SettledIsSound
settled_is_sound intervals k f subs may = sound_by intervals k f subs may (homes_left f intervals) refl
