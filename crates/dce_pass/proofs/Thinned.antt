-- The steps of the pass make the code that rounds leave, until one removes nothing.
use Rattle.std.proofs.Common.{◌≡◌, ◌⊎◌, inl, inr, ℕ, zero, suc, ◌+◌, ◌<◌, List, [], ◌∷◌, map, length, Bool, true, false, cond, sym, ap, ◌∙◌, subst}
use Rattle.std.proofs.Common.{arith, refl}
use Rattle.std.proofs.lemmas.List.{length-append}
use Rattle.mir_func.specs.declared.block.Block.{Block}
use Rattle.mir_func.specs.declared.item.Item.{Item}
use Rattle.mir_func.specs.Function.{Function}
use Rattle.mir_func.specs.Sound.{items_of}
use Rattle.mir_func.specs.Strip.{stripped}
use Rattle.pass_trait.specs.Sizes.{item_count}
use Rattle.pass_trait.specs.Steps.{MakesInTurn}
use Rattle.pass_trait.proofs.Composition.{made_in_turn}
use Rattle.dce_proof.specs.dce_rule.Dead.{Places, Ends, is_dead, needed_at, without_dead, thinned_block, thinned, IsRound, IsThinnedOut, over, again}
use Rattle.dce_proof.proofs.dce_rule.Rounds.{one_round}
use Rattle.dce_proof.specs.DebugRule.{dead_rule}
use Rattle.dce_pass.specs.Steps.{repeated, round_step, most_rounds, dead_steps, StepsThinOut}
use Rattle.dce_pass.proofs.Chain.{most_is}

-- ---- a round removes something, or nothing

fewer_items : (xs : List Item) (needed : Places) → (length (without_dead xs needed) < length xs) ⊎ (without_dead xs needed ≡ xs)
fewer_items [] needed = inr refl
fewer_items (x ∷ xs) needed = by_test (is_dead x.kind (needed_at xs needed)) (fewer_items xs needed) where
  by_test : (z : Bool) → (length (without_dead xs needed) < length xs) ⊎ (without_dead xs needed ≡ xs) →
      (length (cond z (without_dead xs needed) (x ∷ without_dead xs needed)) < length (x ∷ xs)) ⊎
      (cond z (without_dead xs needed) (x ∷ without_dead xs needed) ≡ x ∷ xs)
  by_test true (inl less) = inl (omega (arith, less))
  by_test true (inr same) = inl (let e : length (without_dead xs needed) ≡ length xs = ap length same in omega (arith, e))
  by_test false (inl less) = inl (omega (arith, less))
  by_test false (inr same) = inr (ap (λ (ys : List Item). x ∷ ys) same)

fewer_blocks : (ends : Ends) (bs : List Block) →
    (length (items_of (map (thinned_block ends) bs)) < length (items_of bs)) ⊎ (map (thinned_block ends) bs ≡ bs)
fewer_blocks ends [] = inr refl
fewer_blocks ends (b ∷ bs) = by_parts (fewer_items b.items (ends b.id)) (fewer_blocks ends bs) where
  new : List Item
  new = without_dead b.items (ends b.id)

  left : List Item
  left = items_of (map (thinned_block ends) bs)

  count : length (items_of (map (thinned_block ends) (b ∷ bs))) ≡ length new + length left
  count = length-append new left

  counted : length (items_of (b ∷ bs)) ≡ length b.items + length (items_of bs)
  counted = length-append b.items (items_of bs)

  by_parts : (length new < length b.items) ⊎ (new ≡ b.items) → (length left < length (items_of bs)) ⊎ (map (thinned_block ends) bs ≡ bs) →
      (length (items_of (map (thinned_block ends) (b ∷ bs))) < length (items_of (b ∷ bs))) ⊎ (map (thinned_block ends) (b ∷ bs) ≡ b ∷ bs)
  by_parts (inl less) (inl more) = inl (let c = count in let d = counted in omega (arith, less, more, c, d))
  by_parts (inl less) (inr same) =
      let e : length left ≡ length (items_of bs) = ap (λ (cs : List Block). length (items_of cs)) same in
      inl (let c = count in let d = counted in omega (arith, less, e, c, d))
  by_parts (inr same) (inl more) =
      let e : length new ≡ length b.items = ap length same in
      inl (let c = count in let d = counted in omega (arith, more, e, c, d))
  by_parts (inr here) (inr rest) =
      let whole : map (thinned_block ends) (b ∷ bs) ≡ b ∷ bs = λ i. record { id = b.id; items = here i; source_end = b.source_end } ∷ rest i in
      inr whole

removes : (f h : Function) → IsRound f h → (item_count h < item_count f) ⊎ (h ≡ f)
removes f h r = by_blocks (fewer_blocks r.ends f.blocks) where
  by_blocks : (length (items_of (map (thinned_block r.ends) f.blocks)) < length (items_of f.blocks)) ⊎ (map (thinned_block r.ends) f.blocks ≡ f.blocks) →
      (length (items_of h.blocks) < length (items_of f.blocks)) ⊎ (h ≡ f)
  by_blocks (inl less) =
      let e : length (items_of h.blocks) ≡ length (items_of (map (thinned_block r.ends) f.blocks)) = ap item_count r.thins in
      inl (omega (arith, e, less))
  by_blocks (inr same) =
      let whole : thinned r.ends f ≡ f = λ i. record f { blocks = same i } in
      inr (r.thins ∙ whole)

-- ---- the steps

-- where a round removes nothing, the steps remove nothing
still : (n : ℕ) (f g : Function) → IsRound f f → MakesInTurn (repeated n (round_step dead_rule)) f g → g ≡ f
still zero f g r same = same
still (suc n) f g r (h, here, more) =
    let same : h ≡ f = one_round f h f here r in
    still n h g (subst (λ (z : Function). IsRound z z) (sym same) r) more ∙ same

thins : (n : ℕ) (f g : Function) → item_count f < n → MakesInTurn (repeated n (round_step dead_rule)) f g → IsThinnedOut f g
thins zero f g few made = absurd (omega (arith, few))
thins (suc n) f g few (h, here, more) = by_size (removes f h here) (λ less. thins n h g less more) where
  by_size : (item_count h < item_count f) ⊎ (h ≡ f) → (item_count h < n → IsThinnedOut h g) → IsThinnedOut f g
  by_size (inl less) rest = again h here (rest (omega (arith, few, less)))
  by_size (inr same) rest =
      let quiet : IsRound f f = subst (λ (z : Function). IsRound f z) same here in
      let last : g ≡ f = still n f g quiet (subst (λ (z : Function). MakesInTurn (repeated n (round_step dead_rule)) z g) same more) in
      subst (λ (z : Function). IsThinnedOut f z) (sym last) (over quiet)

pub steps_thin_out : StepsThinOut
steps_thin_out c losses few kept =
    let most : most_rounds ≡ 2147483648 = most_is in
    thins most_rounds (stripped c.old) (stripped c.new) (omega (arith, few, most)) (made_in_turn dead_steps c losses kept)
