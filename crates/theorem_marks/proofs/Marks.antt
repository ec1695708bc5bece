-- A mark of which no loss is told stays, step by step.
use Rattle.std.proofs.Common.{◌≡◌, inl, inr, ℕ, zero, suc, List, [], ◌∷◌, ◌++◌, Option, None, Contains, refl, sym, ap, subst, arith}
use Rattle.std.proofs.lemmas.List.Elements.{Contains-append_left, Contains-append_right, Contains-append_cases}
use Rattle.rv64_instr.specs.Instruction.{Instruction}
use Rattle.mir_func.specs.declared.block.Block.{Block}
use Rattle.mir_func.specs.declared.item.Item.{Item}
use Rattle.mir_func.specs.declared.item.ItemKind.TheVariants.{Code, Mark}
use Rattle.mir_func.specs.declared.location.Loc.{Loc}
use Rattle.mir_func.specs.declared.position.Origin.{Origin}
use Rattle.mir_func.specs.declared.position.Origin.TheVariants.{Kept, Before}
use Rattle.mir_func.specs.declared.position.Pos.{Pos}
use Rattle.mir_func.specs.declared.variable.MarkValue.{MarkValue}
use Rattle.mir_func.specs.declared.variable.MarkValue.TheVariants.{At, Pair}
use Rattle.mir_func.specs.declared.variable.VarId.{VarId}
use Rattle.mir_func.specs.Function.{Function}
use Rattle.mir_func.specs.Graph.{below, block_start}
use Rattle.mir_func.specs.Positions.{position_of}
use Rattle.pass_trait.specs.declared.loss.Loss.{Loss}
use Rattle.pass_trait.specs.declared.loss.Reason.{Reason}
use Rattle.pass_trait.specs.Change.{Change}
use Rattle.pass_trait.specs.Rule.{Rule, item, first_operand, mark_lost}
use Rattle.pass_trait.specs.Debug.{IsLoss, Becomes, BecomeAll, BlocksBecome, over, next, none, stays, goes}
use Rattle.pass_trait.specs.Debug.{added_at_start, added_before, added_after, added_at_end}
use Rattle.pass_trait.specs.Debug.{mark_stays, phi_stays, code_stays, code_numbered, code_unnumbered, jump_stays, code_goes, idle_goes, number_goes}
use Rattle.pass_trait.specs.Debug.{substituted, salvaged, salvaged_wrong, mark_silenced, phi_silenced, mark_goes, phi_goes, mark_spilled, phi_spilled}
use Rattle.pass_trait.specs.Debug.{mark_renamed, phi_renamed}
use Rattle.pass_trait.specs.Steps.{PassStep, KeepsStep, KeepsSteps}
use Rattle.run_command.specs.pass_manager.Told.{KeepsPass, KeepsPasses}
use Rattle.theorem_marks.specs.Stand.{IsNotDropped}

module _ (p : Pos) (v : VarId) where
  -- an item is the mark
  pub record IsMark (i : Item) : Type 0 where
    pub marks : (m : MarkValue) × (i.kind ≡ Mark v m)
    pub kept : i.origin ≡ Kept p

  -- some items have it, and so do some blocks
  abbrev pub HasMark : List Item → Type 0
  HasMark is = (i : Item) × Contains is i × IsMark i

  pub record HaveMark (bs : List Block) : Type 0 where
    pub block : Block
    pub among : Contains bs block
    pub mark : HasMark block.items

  first_of : (i : Item) (is : List Item) → IsMark i → HasMark (i ∷ is)
  first_of i is m = (i, (0, omega arith, refl), m)

  left_of : (xs ys : List Item) → HasMark xs → HasMark (xs ++ ys)
  left_of xs ys (i, at, m) = (i, Contains-append_left xs ys i at, m)

  right_of : (xs ys : List Item) → HasMark ys → HasMark (xs ++ ys)
  right_of xs ys (i, at, m) = (i, Contains-append_right xs ys i at, m)

  none_in : HasMark [] → ⊥
  none_in (i, (k, lt, e), m) = omega (arith, lt)

  no_code : (i : Instruction) (k : Option ℕ) (o : Origin) (l : Loc) {A : Type 0} → IsMark (item (Code i k) o l) → A
  no_code i k o l h = let e : Code i k ≡ Mark v h.marks.0 = h.marks.1 in absurd cc

  module _ (rule : Rule) (c : Change) (lost : List Loss) (told : (loss : Loss) → IsLoss rule c loss → Contains lost loss) (untold : IsNotDropped lost p) where
    -- its loss would be told
    not_lost : {A : Type 0} (at : Pos) (o : Origin) (why : Reason) → o ≡ Kept p → rule.loses c at (mark_lost o why) → A
    not_lost at o why e loses = absurd (untold why (subst (λ (q : Origin). Contains lost (mark_lost q why)) e (told (mark_lost o why) (inl (at, loses)))))

    becomes_mark : {at : Pos} {x : Item} {ys : List Item} → IsMark x → Becomes rule c at x ys → HasMark ys
    becomes_mark is (mark_stays {v = w} {m} {o} {l} unlost stay) = first_of _ [] is
    becomes_mark is (phi_stays unlost stay) = absurd (let e = is.marks.1 in cc)
    becomes_mark is (code_stays unlost) = absurd (let e = is.marks.1 in cc)
    becomes_mark is (code_numbered number) = absurd (let e = is.marks.1 in cc)
    becomes_mark is (code_unnumbered number) = absurd (let e = is.marks.1 in cc)
    becomes_mark is (jump_stays was now unlost) = absurd (let e = is.marks.1 in cc)
    becomes_mark is (code_goes number fewer) = absurd (let e = is.marks.1 in cc)
    becomes_mark is (idle_goes sets fewer) = absurd (let e = is.marks.1 in cc)
    becomes_mark is (number_goes k why gone has loses) = absurd (let e = is.marks.1 in cc)
    becomes_mark is (substituted k e copy removed has entry unlost) = absurd (let e = is.marks.1 in cc)
    becomes_mark is (salvaged copy removed has place unlost) = absurd (let e = is.marks.1 in cc)
    becomes_mark is (salvaged_wrong copy removed has place loses) = absurd (let e = is.marks.1 in cc)
    becomes_mark {at} is (mark_silenced {o = o} why fate loses) = not_lost at o why is.kept loses
    becomes_mark is (phi_silenced why fate loses) = absurd (let e = is.marks.1 in cc)
    becomes_mark {at} is (mark_goes {o = o} why fate loses) = not_lost at o why is.kept loses
    becomes_mark is (phi_goes why fate loses) = absurd (let e = is.marks.1 in cc)
    becomes_mark is (mark_spilled {v = w} {r} {slot} {k} {o} {l} unlost spills number) =
        let same : w ≡ v = (let e = is.marks.1 in cc) in
        let now : Item = item (Mark w (Pair (first_operand k))) o l in
        (now, (1, omega arith, refl), record { marks = (Pair (first_operand k), ap (λ (z : VarId). Mark z (Pair (first_operand k))) same); kept = is.kept })
    becomes_mark is (phi_spilled unlost spills) = absurd (let e = is.marks.1 in cc)
    becomes_mark is (mark_renamed {v = w} {r} {now} {o} {l} unlost renames) =
        let same : w ≡ v = (let e = is.marks.1 in cc) in
        first_of _ [] (record { marks = (At now, ap (λ (z : VarId). Mark z (At now)) same); kept = is.kept })
    becomes_mark is (phi_renamed unlost renames) = absurd (let e = is.marks.1 in cc)

    only : (x i : Item) → Contains (x ∷ []) i → x ≡ i
    only x i (zero, lt, e) = e
    only x i (suc k, lt, e) = absurd (omega (arith, lt))

    become_all : {block n : ℕ} {xs ys : List Item} → BecomeAll rule c block n xs ys → HasMark xs → HasMark ys
    become_all over h = h
    become_all (next {x = x} {xs} {ys} {zs} one rest) (i, at, m) = elim (Contains-append_cases (x ∷ []) xs i at) [
      | inl here ↦ left_of ys zs (becomes_mark (subst IsMark (sym (only x i here)) m) one)
      | inr more ↦ right_of ys zs (become_all rest (i, more, m))
    ]
    become_all {block} (added_at_start {i = i} {l} {xs} {ys} more rest) h =
        right_of (item (Code i None) (Before (block_start block)) l ∷ []) ys (become_all rest h)
    become_all (added_before {i = i} {l} {y} {xs} {ys} code more rest) h =
        right_of (item (Code i None) (Before (position_of y.origin)) l ∷ []) (y ∷ ys) (become_all rest h)
    become_all (added_after {i = j} {l} {x} {y} {xs} {zs} code more one rest) (i, at, m) =
        let new : Item = item (Code j None) (Before (below (position_of y.origin))) l in
        elim (Contains-append_cases (x ∷ []) xs i at) [
          | inl here ↦ left_of (y ∷ []) (new ∷ zs) (becomes_mark (subst IsMark (sym (only x i here)) m) one)
          | inr later ↦ right_of (y ∷ new ∷ []) zs (become_all rest (i, later, m))
        ]
    become_all (added_at_end jump more) h = absurd (none_in h)

    blocks_become : {xs ys : List Block} → BlocksBecome rule c xs ys → (b : Block) → Contains xs b → HasMark b.items → HaveMark ys
    blocks_become none b (k, lt, e) h = absurd (omega (arith, lt))
    blocks_become (stays {x} {y} {xs} {ys} kills items id source_end are killed kill all rest) b at h = elim (Contains-append_cases (x ∷ []) xs b at) [
      | inl here ↦ (let same : x ≡ b = alone x b here in
          record {
            block = y;
            among = (0, omega arith, refl);
            mark = subst HasMark (sym are) (right_of kills items (become_all all (subst (λ (z : Block). HasMark z.items) (sym same) h)));
          })
      | inr more ↦ (let w = blocks_become rest b more h in
          record { block = w.block; among = Contains-append_right (y ∷ []) ys w.block w.among; mark = w.mark })
    ] where
      alone : (x i : Block) → Contains (x ∷ []) i → x ≡ i
      alone x i (zero, lt, e) = e
      alone x i (suc k, lt, e) = absurd (omega (arith, lt))
    blocks_become (goes {x} {xs} {ys} all rest) b at h = elim (Contains-append_cases (x ∷ []) xs b at) [
      | inl here ↦ (let same : x ≡ b = alone x b here in
          absurd (none_in (become_all all (subst (λ (z : Block). HasMark z.items) (sym same) h))))
      | inr more ↦ blocks_become rest b more h
    ] where
      alone : (x i : Block) → Contains (x ∷ []) i → x ≡ i
      alone x i (zero, lt, e) = e
      alone x i (suc k, lt, e) = absurd (omega (arith, lt))

  -- ---- steps and passes

  pub untold_left : (xs ys : List Loss) → IsNotDropped (xs ++ ys) p → IsNotDropped xs p
  untold_left xs ys h why at = h why (Contains-append_left xs ys (mark_lost (Kept p) why) at)

  untold_right : (xs ys : List Loss) → IsNotDropped (xs ++ ys) p → IsNotDropped ys p
  untold_right xs ys h why at = h why (Contains-append_right xs ys (mark_lost (Kept p) why) at)

  step_keeps : (step : PassStep) (c : Change) (lost : List Loss) → KeepsStep step c lost → IsNotDropped lost p → HaveMark c.old.blocks → HaveMark c.new.blocks
  step_keeps step c lost k untold h = blocks_become step.debug c lost k.items.told untold k.items.blocks h.block h.among h.mark

  steps_keep : (steps : List PassStep) (c : Change) (lost : List Loss) → KeepsSteps steps c lost → IsNotDropped lost p → HaveMark c.old.blocks →
      HaveMark c.new.blocks
  steps_keep [] c lost (same, subs, nothing) untold h = subst (λ (f : Function). HaveMark f.blocks) (sym same) h
  steps_keep (step ∷ steps) c lost (f, subs, here, later, one, more, are) untold h =
      let all : IsNotDropped (here ++ later) p = subst (λ (ls : List Loss). IsNotDropped ls p) are untold in
      steps_keep steps (record c { old = f; old_subs = subs }) later more (untold_right here later all)
      (step_keeps step (record c { new = f; new_subs = subs }) here one (untold_left here later all) h)

  pass_keeps : (steps : List PassStep) (c : Change) (told : List Loss) → KeepsPass steps c told → IsNotDropped told p → HaveMark c.old.blocks →
      HaveMark c.new.blocks
  pass_keeps steps c told k untold h =
      steps_keep steps c k.lost k.kept (λ why at. untold why ((k.are_told.same (mark_lost (Kept p) why)).1 at)) h

  pub passes_keep : (passes : List (List PassStep)) (c : Change) (told : List Loss) → KeepsPasses passes c told → IsNotDropped told p → HaveMark c.old.blocks →
      HaveMark c.new.blocks
  passes_keep [] c told (same, subs, nothing) untold h = subst (λ (f : Function). HaveMark f.blocks) (sym same) h
  passes_keep (steps ∷ passes) c told (f, subs, here, later, one, more, are) untold h =
      let all : IsNotDropped (here ++ later) p = subst (λ (ls : List Loss). IsNotDropped ls p) are untold in
      passes_keep passes (record c { old = f; old_subs = subs }) later more (untold_right here later all)
      (pass_keeps steps (record c { new = f; new_subs = subs }) here one (untold_left here later all) h)
