-- Marks that ask by phis, and then registers in slots.
use Rattle.std.proofs.Common.{◌≡◌, ℕ, List, [], ◌∷◌, Option, None, Bool, true, false, refl, sym, ap, ◌∙◌, subst}
use Rattle.mir_func.specs.declared.debug_substitution.DebugSubstitution.{DebugSubstitution}
use Rattle.mir_func.specs.declared.debug_substitution.OperandPair.{OperandPair}
use Rattle.mir_func.specs.Function.{Function}
use Rattle.mir_func.specs.Resolve.{resolve}
use Rattle.mir_func.specs.Sound.{AllItems, IsSound}
use Rattle.pass_trait.specs.Change.{change}
use Rattle.pass_trait.specs.Simulation.{PreservesSimulation}
use Rattle.spill_code.specs.declared.spilling.SlotAssignment.{SlotAssignment}
use Rattle.spill_code.specs.declared.spilling.Spilling.{Spilling}
use Rattle.spill_debug.specs.RewrittenDebugItems.{asked}
use Rattle.spill_debug.proofs.AskedSound.{asked_is_sound}
use Rattle.spill_proof.proofs.Stripped.{asked_is_stripped}
use Rattle.spill_select.specs.spill_simulation.Follows.{MaySpill}
use Rattle.spill_select.proofs.spill_simulation.Following.{spilled_follows}
use Rattle.spill_proof.proofs.Sound.{spilled_is_sound}
use Rattle.spill_select.specs.spill_rule.Choice.{homes_of, spilling_of, entry_of}
use Rattle.spill_select.specs.spill_rule.Chosen.{AsksElsewhere}
use Rattle.spill_select.proofs.spill_rule.Chosen.{chosen_may_spill}
use Rattle.spill_proof.proofs.Low.{low_function}
use Rattle.spill_proof.proofs.Following.{asked_follows, both, all_numbers}
use Rattle.spill_proof.specs.Whole.{spilled_by, where_spilled, whole}
use Rattle.spill_proof.specs.JoinedLaws.{MayBeSpilled, JoinedFollows, JoinedIsSound}
use Rattle.spill_proof.proofs.Bare.{choice_is_bare}
use Rattle.spill_proof.proofs.Chosen.{no_scratch}
use Rattle.spill_proof.proofs.Elsewhere.{asks_elsewhere, forms_asked}
use Rattle.spill_proof.proofs.Slots.{slots_apart, few_slots}

module _ (reserve : List ℕ) (live : ℕ → Bool) (k : ℕ) (f : Function) (subs : List DebugSubstitution) (may : MayBeSpilled reserve live k f subs) where
  abbrev s : Spilling
  s = spilling_of reserve live f

  abbrev g : Function
  g = asked s k f

  -- the choice is the same where marks ask by phis
  same : spilling_of reserve live g ≡ s
  same = sym (choice_is_bare reserve live g) ∙ ap (spilling_of reserve live) (asked_is_stripped s k f) ∙ choice_is_bare reserve live f

  sound : IsSound g
  sound = asked_is_sound s k f may.sound (all_numbers k f (low_function k f subs may.fresh).0)

  -- where some register is spilled
  module _ (some : homes_of reserve live f ≡ [] → ⊥) (resolves : OperandPair → Option OperandPair) where
    may_spill : MaySpill s (entry_of live s.homes) g resolves
    may_spill = subst (λ (t : Spilling). MaySpill t (entry_of live t.homes) g resolves) same
        (chosen_may_spill reserve live g resolves sound (forms_asked s k f.blocks may.forms) may.real may.distinct may.decides
        (subst (λ (t : Spilling). AllItems (λ i. AsksElsewhere t i.kind) g.blocks) (sym same)
        (asks_elsewhere s (no_scratch reserve live f may.real) k f.blocks))
        (λ none. some (ap (λ (t : Spilling). t.homes) (sym same) ∙ none)))

  spilled_keeps : (homes_of reserve live f ≡ [] → ⊥) → PreservesSimulation false true (change g subs (spilled_by s (entry_of live s.homes) k f) subs)
  spilled_keeps some = record {
    follows = λ source fol ends. record {
      objects = fol.objects;
      follows = (spilled_follows source.function.objects source.function.blocks g (resolve source.subs) (resolve subs) s (entry_of live s.homes) sound
          (may_spill some (resolve subs)) fol.follows).0;
    };
    ends = λ keeps source fol whole. (spilled_follows source.function.objects source.function.blocks g (resolve source.subs) (resolve subs) s
        (entry_of live s.homes) sound (may_spill some (resolve subs)) fol.follows).1 whole;
  }

  stays : PreservesSimulation false true (change f subs f subs)
  stays = record { follows = λ source fol ends. fol; ends = λ keeps source fol whole. whole }

  follows_by : (hs : List SlotAssignment) → homes_of reserve live f ≡ hs →
      PreservesSimulation false true (change f subs (where_spilled hs f (spilled_by s (entry_of live s.homes) k f)) subs)
  follows_by [] e = stays
  follows_by (h ∷ hs) e =
      both f g (spilled_by s (entry_of live s.homes) k f) subs (asked_follows s k f subs may.sound may.fresh)
      (spilled_keeps (λ none. (let bad : h ∷ hs ≡ [] = sym e ∙ none in cc)))

  sound_by : (hs : List SlotAssignment) → homes_of reserve live f ≡ hs → IsSound (where_spilled hs f (spilled_by s (entry_of live s.homes) k f))
  sound_by [] e = may.sound
  sound_by (h ∷ hs) e =
      spilled_is_sound s (entry_of live s.homes) g (λ q. None) sound (may_spill (λ none. (let bad : h ∷ hs ≡ [] = sym e ∙ none in cc)) (λ q. None))
      (slots_apart reserve live f may.sound.slots_apart) (few_slots reserve live f may.sound.few_slots)

pub joined_follows : JoinedFollows
joined_follows reserve live k f subs may = follows_by reserve live k f subs may (homes_of reserve live f) refl

pub joined_is_sound : JoinedIsSound
joined_is_sound reserve live k f subs may = sound_by reserve live k f subs may (homes_of reserve live f) refl
