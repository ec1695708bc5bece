-- The code after spilling.
use Rattle.std.proofs.Common.{◌≡◌, ℕ, List, [], ◌∷◌, ◌++◌, map, Bool, append-nil, refl, sym, ap, ◌∙◌}
use Rattle.mir_func.specs.declared.block.Block.{Block}
use Rattle.mir_func.specs.Function.{Function}
use Rattle.mir_func.specs.Strip.{stripped_blocks, stripped}
use Rattle.spill_code.specs.declared.spilling.SlotAssignment.{SlotAssignment}
use Rattle.spill_code.specs.declared.spilling.Spilling.{Spilling}
use Rattle.spill_code.specs.Rewrite.{spilled_blocks}
use Rattle.spill_debug.specs.RewrittenDebugItems.{blocks_asked}
use Rattle.spill_proof.proofs.Stripped.{asked_is_stripped, spilled_is_stripped}
use Rattle.spill_select.specs.spill_rule.Choice.{homes_of, spilling_of, entry_of, spilled}
use Rattle.spill_proof.specs.Whole.{spilled_by, where_spilled}
use Rattle.spill_proof.proofs.Bare.{choice_is_bare}
use Rattle.spill_proof.specs.StepLaws.{SpilledCodeIsMade}
use Rattle.spill_select.proofs.spill_rule.RuleFollows.{blocks_same}

module _ (reserve : List ℕ) (live : ℕ → Bool) (k : ℕ) (f : Function) where
  abbrev s : Spilling
  s = spilling_of reserve live f

  -- what the rule makes of bare code, by the choice for the whole function
  abbrev made : Spilling → List Block → Function
  made t bs = record f { slots = f.slots ++ map (λ (h : SlotAssignment). h.slot) t.homes; blocks = spilled_blocks t (entry_of live t.homes) bs }

  by_choice : spilled reserve live (stripped f) ≡ made s (stripped_blocks f.blocks)
  by_choice = ap (λ (t : Spilling). made t (stripped_blocks f.blocks)) (choice_is_bare reserve live f)

  bare_asked : stripped_blocks (blocks_asked s k f.blocks) ≡ stripped_blocks f.blocks
  bare_asked = ap (λ (g : Function). g.blocks) (asked_is_stripped s k f)

  code_spilled : stripped (spilled_by s (entry_of live s.homes) k f) ≡ spilled reserve live (stripped f)
  code_spilled =
      ap (λ (bs : List Block). record f { slots = f.slots ++ map (λ (h : SlotAssignment). h.slot) s.homes; blocks = bs })
      (spilled_is_stripped s (entry_of live s.homes) (blocks_asked s k f.blocks) ∙ ap (spilled_blocks s (entry_of live s.homes)) bare_asked) ∙ sym by_choice

  -- where nothing is spilled
  code_stays : homes_of reserve live f ≡ [] → stripped f ≡ spilled reserve live (stripped f)
  code_stays none =
      sym (by_choice ∙ ap (λ (hs : List SlotAssignment). made (record { first = s.first; second = s.second; homes = hs }) (stripped_blocks f.blocks)) none ∙
      (λ i. record f { slots = append-nil f.slots i; blocks = blocks_same s.first s.second (stripped_blocks f.blocks) i }))

  code_by : (hs : List SlotAssignment) → homes_of reserve live f ≡ hs →
      stripped (where_spilled hs f (spilled_by s (entry_of live s.homes) k f)) ≡ spilled reserve live (stripped f)
  code_by [] e = code_stays e
  code_by (h ∷ hs) e = code_spilled

pub spilled_code_is_made : SpilledCodeIsMade
spilled_code_is_made reserve live k f decides = (live, decides, code_by reserve live k f (homes_of reserve live f) refl)
