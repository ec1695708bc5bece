-- What follows a source follows it with the rule's registers in slots, also where the rule chooses none.
use Rattle.std.proofs.Common.{◌≡◌, ℕ, List, [], ◌∷◌, ◌++◌, map, Option, Some, None, refl, sym, ap, ◌∙◌, subst}
use Rattle.std.specs.List.{flat_map}
use Rattle.std.proofs.lemmas.List.Concat.{flat_map-cons}
use Rattle.rv64_instr.specs.declared.operand.Operand.{Operand}
use Rattle.rv64_instr.specs.declared.operand.Operand.TheVariants.{Def, Use}
use Rattle.rv64_instr.specs.declared.place.Place.{Place}
use Rattle.rv64_instr.specs.declared.place.Place.TheVariants.{Register, Slot, Const}
use Rattle.mir_func.specs.declared.block.Block.{Block}
use Rattle.mir_func.specs.declared.item.Item.{Item}
use Rattle.mir_func.specs.declared.item.ItemKind.{ItemKind}
use Rattle.mir_func.specs.declared.item.ItemKind.TheVariants.{Code, Mark, Phi}
use Rattle.mir_func.specs.declared.position.Origin.{Origin}
use Rattle.mir_func.specs.declared.location.Loc.{Loc}
use Rattle.spill_simulation.specs.spill_code.declared.spilling.SlotAssignment.{SlotAssignment}
use Rattle.spill_simulation.specs.spill_code.declared.spilling.Spilling.{Spilling}
use Rattle.spill_simulation.specs.spill_code.Rewrite.{first_used, first_defined, use_now, def_now, renamed_operand, spilled_code, two_loads, stores, kind_items}
use Rattle.spill_simulation.specs.spill_code.Rewrite.{spilled_place, spilled_item, spilled_items, spilled_block, spilled_blocks}
use Rattle.mir_func.specs.Graph.{below}
use Rattle.mir_func.specs.Positions.{position_of}
use Rattle.pass_trait.specs.sem_mir.Follow.{Follows, HasWholeEnds}
use Rattle.spill_simulation.proofs.Following.{spilled_follows}
use Rattle.spill_rule.specs.Choice.{homes_of, spilling_of, entry_of}
use Rattle.spill_rule.specs.Follows.{RuleFollows}
use Rattle.spill_rule.proofs.Chosen.{chosen_may_spill}

none_used : (os : List Operand) → first_used [] os ≡ None
none_used [] = refl
none_used (Use r ∷ os) = none_used os
none_used (_ ∷ os) = none_used os

none_defined : (os : List Operand) → first_defined [] os ≡ None
none_defined [] = refl
none_defined (Def r ∷ os) = none_defined os
none_defined (_ ∷ os) = none_defined os

module _ (a b : ℕ) where
  abbrev s : Spilling
  s = record { first = a; second = b; homes = [] }

  operand_same : (u : Option ℕ) (o : Operand) → renamed_operand (use_now s u) (def_now s) o ≡ o
  operand_same u (Use r) = refl
  operand_same u (Def r) = refl
  operand_same u _ = refl

  operands_same : (u : Option ℕ) (os : List Operand) → map (renamed_operand (use_now s u) (def_now s)) os ≡ os
  operands_same u [] = refl
  operands_same u (o ∷ os) = let e = operand_same u o in let es = operands_same u os in λ i. e i ∷ es i

  place_same : (p : Option Place) → spilled_place [] p ≡ p
  place_same None = refl
  place_same (Some (Register r)) = refl
  place_same (Some (Slot n)) = refl
  place_same (Some (Const z)) = refl

  kind_same : (k : ItemKind) (o : Origin) (l : Loc) → kind_items s k o l ≡ record { kind = k; origin = o; loc = l } ∷ []
  kind_same (Code i n) o l =
      let u = none_used i.operands in
      let d = none_defined i.operands in
      let e = operands_same (first_used [] i.operands) i.operands in
      ap (λ (z : Option ℕ). two_loads s (position_of o) i.operands z ++
      (record { kind = Code (spilled_code s i) n; origin = o; loc = l } ∷ stores (below (position_of o)) a (first_defined [] i.operands))) u ∙
      (λ j. record { kind = Code (record i { operands = e j }) n; origin = o; loc = l } ∷ stores (below (position_of o)) a (d j))
  kind_same (Mark v m) o l = refl
  kind_same (Phi p n) o l = ap (λ (q : Option Place). record { kind = Phi q n; origin = o; loc = l } ∷ []) (place_same p)

  items_same : (xs : List Item) → spilled_items s xs ≡ xs
  items_same [] = refl
  items_same (x ∷ xs) =
      let e = kind_same x.kind x.origin x.loc in
      let es = items_same xs in
      flat_map-cons (spilled_item s) x xs ∙ (λ i. e i ++ es i)

  others_same : (bs : List Block) → map (spilled_block s) bs ≡ bs
  others_same [] = refl
  others_same (c ∷ bs) =
      let e = items_same c.items in let es = others_same bs in λ i. record { id = c.id; items = e i; source_end = c.source_end } ∷ es i

  pub blocks_same : (bs : List Block) → spilled_blocks s [] bs ≡ bs
  blocks_same [] = refl
  blocks_same (c ∷ bs) =
      let e = items_same c.items in let es = others_same bs in λ i. record { id = c.id; items = e i; source_end = c.source_end } ∷ es i

pub rule_follows : RuleFollows
rule_follows objects src subs fsubs reserve live f sound forms real distinct decides asks follows = by_homes (homes_of reserve live f) refl where
  by_homes : (hs : List SlotAssignment) → homes_of reserve live f ≡ hs →
      Follows objects src (spilled_blocks (spilling_of reserve live f) (entry_of live (homes_of reserve live f)) f.blocks) subs fsubs ×
      (HasWholeEnds objects src f.blocks subs fsubs →
      HasWholeEnds objects src (spilled_blocks (spilling_of reserve live f) (entry_of live (homes_of reserve live f)) f.blocks) subs fsubs)
  by_homes [] e =
      let first = (spilling_of reserve live f).first in
      let second = (spilling_of reserve live f).second in
      let same : spilled_blocks (spilling_of reserve live f) (entry_of live (homes_of reserve live f)) f.blocks ≡ f.blocks =
      ap (λ (hs : List SlotAssignment). spilled_blocks (record { first = first; second = second; homes = hs }) (entry_of live hs) f.blocks) e ∙
      blocks_same first second f.blocks in (
        subst (λ (bs : List Block). Follows objects src bs subs fsubs) (sym same) follows,
        λ whole. subst (λ (bs : List Block). HasWholeEnds objects src bs subs fsubs) (sym same) whole,
      )
  by_homes (h ∷ hs) e =
      spilled_follows objects src f subs fsubs (spilling_of reserve live f) (entry_of live (homes_of reserve live f)) sound
      (chosen_may_spill reserve live f fsubs sound forms real distinct decides asks
      (λ none. (let bad : h ∷ hs ≡ [] = sym e ∙ none in cc))) follows
