-- What the code makes is what the rule makes.
use Rattle.std.proofs.Common.{◌≡◌, ℕ, ◌+◌, ◌<◌, ◌^◌, List, [], ◌∷◌, All, refl, sym, ap, ◌∙◌, subst, arith}
use Rattle.mir_func.specs.declared.block.Block.{Block}
use Rattle.mir_func.specs.declared.debug_substitution.DebugSubstitution.{DebugSubstitution}
use Rattle.mir_func.specs.Function.{Function}
use Rattle.mir_func.specs.Sound.{AllItems, IsSound, HasForm}
use Rattle.pass_trait.specs.declared.loss.Loss.{Loss}
use Rattle.pass_trait.specs.Order.{IsInOrder}
use Rattle.pass_trait.specs.Sizes.{greatest_number}
use Rattle.spill_code.specs.declared.spilling.SlotAssignment.{SlotAssignment}
use Rattle.spill_code.specs.declared.spilling.Spilling.{Spilling}
use Rattle.spill_code.specs.Room.{HaveRoom}
use Rattle.spill_pass.specs.spill_debug.RewrittenDebugItems.{blocks_asked}
use Rattle.spill_pass.specs.spill_debug.Lost.{AreScratchLosses}
use Rattle.scan_slots.specs.spill_proof.Whole.{spilled_by, where_spilled}
use Rattle.scan_slots.specs.spill_proof.Kept.{AreTaken}
use Rattle.spill_pass.proofs.Room.{silent_asked, have_room}
use Rattle.scan_slots.specs.scan_intervals.declared.interval.LiveInterval.{LiveInterval}
use Rattle.scan_slots.specs.Choice.{homes_left, settling_of, settled_whole}
use Rattle.scan_slots.specs.Rule.{AreLeft}
use Rattle.scan_slots.proofs.Following.{settled_is_sound}
use Rattle.scan_settle.specs.Settled.{IsSettledWithLosses}

module _ (intervals : List LiveInterval) (f : Function) (subs : List DebugSubstitution) (s : Spilling) (is : s ≡ settling_of f intervals) where
  abbrev k : ℕ
  k = greatest_number f subs + 1

  homes_are : s.homes ≡ homes_left f intervals
  homes_are = ap (λ (t : Spilling). t.homes) is

  abbrev by : List SlotAssignment → Function
  by hs = where_spilled hs f (spilled_by (settling_of f intervals) [] k f)

  stays_by : (hs : List SlotAssignment) → hs ≡ [] → f ≡ by hs
  stays_by [] e = refl
  stays_by (h ∷ hs) e = cc

  none_by : (hs : List SlotAssignment) → hs ≡ [] → AreTaken hs (settling_of f intervals) f.blocks []
  none_by [] e = refl
  none_by (h ∷ hs) e = cc

  goes_by : (hs : List SlotAssignment) → (hs ≡ [] → ⊥) → spilled_by (settling_of f intervals) [] k f ≡ by hs
  goes_by [] n = absurd (n refl)
  goes_by (h ∷ hs) n = refl

  taken_by : (hs : List SlotAssignment) → (hs ≡ [] → ⊥) → (losses : List Loss) → IsInOrder losses →
      AreScratchLosses (settling_of f intervals) f.blocks losses → AreTaken hs (settling_of f intervals) f.blocks losses
  taken_by [] n losses ordered each = absurd (n refl)
  taken_by (h ∷ hs) n losses ordered each = (ordered, each)

  -- where no register gets a slot, the function stays
  pub nothing_settled : s.homes ≡ [] → IsSettledWithLosses intervals f subs f []
  nothing_settled none = record {
    made = stays_by (homes_left f intervals) (sym homes_are ∙ none);
    taken = none_by (homes_left f intervals) (sym homes_are ∙ none);
  }

  module _ (some : s.homes ≡ [] → ⊥) where
    not_none : homes_left f intervals ≡ [] → ⊥
    not_none e = some (homes_are ∙ e)

    -- where some do, it is this
    whole_is : spilled_by s [] k f ≡ settled_whole intervals k f
    whole_is = (λ i. spilled_by (is i) [] k f) ∙ goes_by (homes_left f intervals) not_none

    pub some_settled : (losses : List Loss) → IsInOrder losses → AreScratchLosses s f.blocks losses →
        IsSettledWithLosses intervals f subs (spilled_by s [] k f) losses
    some_settled losses ordered each = record {
      made = whole_is;
      taken = taken_by (homes_left f intervals) not_none losses ordered (subst (λ (t : Spilling). AreScratchLosses t f.blocks losses) is each);
    }

    module _ (left : AreLeft f intervals) (sound : IsSound f) (forms : AllItems (λ i. HasForm i.kind) f.blocks) where
      pub sound_settled : IsSound (spilled_by s [] k f)
      sound_settled =
          subst IsSound (sym whole_is)
          (settled_is_sound intervals k f subs (record { sound = sound; forms = forms; left = left; fresh = omega arith }))

      -- each store has its position
      pub room : All (λ (b : Block). b.source_end < 2 ^ 32) f.blocks → HaveRoom s (blocks_asked s k f.blocks)
      room small = have_room s [] (blocks_asked s k f.blocks) (silent_asked s k f.blocks small) sound_settled.origins
