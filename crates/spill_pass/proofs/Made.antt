-- What the code makes is what the rule makes.
use Rattle.std.proofs.Common.{◌≡◌, ℕ, ◌+◌, ◌<◌, ◌^◌, List, [], ◌∷◌, ◌++◌, All, Bool, refl, sym, ap, ◌∙◌, subst, arith}
use Rattle.mir_func.specs.declared.block.Block.{Block}
use Rattle.mir_func.specs.declared.debug_substitution.DebugSubstitution.{DebugSubstitution}
use Rattle.mir_func.specs.Function.{Function}
use Rattle.mir_func.specs.Sound.{AllItems, IsSound, HasForm}
use Rattle.spill_proof.specs.pass_trait.declared.loss.Loss.{Loss}
use Rattle.spill_proof.specs.pass_trait.Order.{IsInOrder}
use Rattle.spill_proof.specs.pass_trait.Sizes.{greatest_number, item_count}
use Rattle.spill_code.specs.declared.spilling.SlotAssignment.{SlotAssignment}
use Rattle.spill_code.specs.declared.spilling.Spilling.{Spilling}
use Rattle.spill_code.specs.Room.{HaveRoom}
use Rattle.spill_proof.specs.spill_debug.RewrittenDebugItems.{number_beyond, blocks_asked}
use Rattle.spill_proof.specs.spill_debug.Lost.{AreScratchLosses}
use Rattle.spill_proof.specs.spill_select.Left.{registers_left}
use Rattle.spill_proof.specs.spill_rule.Choice.{homes_of, spilling_of, entry_of}
use Rattle.spill_proof.specs.spill_rule.Rule.{Decides}
use Rattle.spill_proof.proofs.Numbers.{beyond_most}
use Rattle.spill_proof.specs.Whole.{spilled_by, where_spilled, whole}
use Rattle.spill_proof.proofs.Joined.{joined_is_sound}
use Rattle.spill_proof.specs.Kept.{AreTaken, IsReserve, IsSpilledWithLosses}
use Rattle.spill_proof.proofs.Kept.{may_be}
use Rattle.spill_pass.proofs.Room.{silent_asked, have_room}

module _ (reserve : List ℕ) (live : ℕ → Bool) (f : Function) (subs : List DebugSubstitution) (decides : Decides reserve f live) (s : Spilling)
    (is : s ≡ spilling_of reserve live f) where
  abbrev k : ℕ
  k = greatest_number f subs + 1

  homes_are : s.homes ≡ homes_of reserve live f
  homes_are = ap (λ (t : Spilling). t.homes) is

  -- where nothing is spilled, the function stays
  pub nothing_spilled : (losses : List Loss) → s.homes ≡ [] → losses ≡ registers_left reserve live f → IsSpilledWithLosses reserve f subs f losses
  nothing_spilled losses none are = record {
    live = live;
    decides = decides;
    made = stays (homes_of reserve live f) (sym homes_are ∙ none);
    scratch = [];
    taken = no_loss (homes_of reserve live f) (sym homes_are ∙ none);
    are = are;
  } where
    stays : (hs : List SlotAssignment) → hs ≡ [] →
        f ≡ where_spilled hs f (spilled_by (spilling_of reserve live f) (entry_of live (homes_of reserve live f)) k f)
    stays [] e = refl
    stays (h ∷ hs) e = cc

    no_loss : (hs : List SlotAssignment) → hs ≡ [] → AreTaken hs (spilling_of reserve live f) f.blocks []
    no_loss [] e = refl
    no_loss (h ∷ hs) e = cc

  module _ (some : s.homes ≡ [] → ⊥) where
    not_none : homes_of reserve live f ≡ [] → ⊥
    not_none e = some (homes_are ∙ e)

    -- where some are, it is this
    whole_is : (entry : List SlotAssignment) → entry ≡ entry_of live s.homes → spilled_by s entry k f ≡ whole reserve live k f
    whole_is entry e =
        (λ i. spilled_by (is i) (whole_entry i) k f) ∙ by_homes (homes_of reserve live f) not_none where
          whole_entry : entry ≡ entry_of live (homes_of reserve live f)
          whole_entry = e ∙ ap (entry_of live) homes_are

          by_homes : (hs : List SlotAssignment) → (hs ≡ [] → ⊥) → spilled_by (spilling_of reserve live f) (entry_of live (homes_of reserve live f)) k f ≡
              where_spilled hs f (spilled_by (spilling_of reserve live f) (entry_of live (homes_of reserve live f)) k f)
          by_homes [] n = absurd (n refl)
          by_homes (h ∷ hs) n = refl

    pub some_spilled : (entry : List SlotAssignment) (scratch losses : List Loss) → entry ≡ entry_of live s.homes → IsInOrder scratch →
        AreScratchLosses s f.blocks scratch →
        losses ≡ scratch ++ registers_left reserve live f → IsSpilledWithLosses reserve f subs (spilled_by s entry k f) losses
    some_spilled entry scratch losses e ordered each are = record {
      live = live;
      decides = decides;
      made = whole_is entry e;
      scratch = scratch;
      taken = lost (homes_of reserve live f) not_none;
      are = are;
    } where
      lost : (hs : List SlotAssignment) → (hs ≡ [] → ⊥) → AreTaken hs (spilling_of reserve live f) f.blocks scratch
      lost [] n = absurd (n refl)
      lost (h ∷ hs) n = (ordered, subst (λ (t : Spilling). AreScratchLosses t f.blocks scratch) is each)

    module _ (keeps : IsReserve reserve) (sound : IsSound f) (forms : AllItems (λ i. HasForm i.kind) f.blocks) where
      pub sound_spilled : (entry : List SlotAssignment) → entry ≡ entry_of live s.homes → IsSound (spilled_by s entry k f)
      sound_spilled entry e = subst IsSound (sym (whole_is entry e))
          (joined_is_sound reserve live k f subs (may_be reserve live f subs keeps sound forms decides))

      -- each store has its position
      pub room : (entry : List SlotAssignment) → entry ≡ entry_of live s.homes → All (λ (b : Block). b.source_end < 2 ^ 32) f.blocks →
          HaveRoom s (blocks_asked s k f.blocks)
      room entry e small = have_room s entry (blocks_asked s k f.blocks) (silent_asked s k f.blocks small) (sound_spilled entry e).origins

-- there are fresh numbers for all marks
pub fresh_enough : (s : Spilling) (f : Function) (subs : List DebugSubstitution) → greatest_number f subs + item_count f + 1 < 2 ^ 31 →
    number_beyond s.homes (greatest_number f subs + 1) f.blocks < 2 ^ 32
fresh_enough s f subs lt = let le = beyond_most s (greatest_number f subs + 1) f.blocks in omega (arith, lt, le)
