-- Stripping, and marks that ask by phis, and registers in slots.
use Rattle.std.proofs.Common.{◌≡◌, ℕ, List, [], ◌∷◌, ◌++◌, map, Option, Some, None, refl, sym, ap, ◌∙◌}
use Rattle.std.proofs.lemmas.List.Concat.{flat_map-cons}
use Rattle.std.proofs.lemmas.List.Elements.{filter_map-append}
use Rattle.rv64_instr.specs.declared.operand.Operand.{Operand}
use Rattle.rv64_instr.specs.Instruction.{Instruction}
use Rattle.mir_func.specs.declared.position.Pos.{Pos}
use Rattle.mir_func.specs.declared.position.Origin.{Origin}
use Rattle.mir_func.specs.declared.location.Loc.{Loc}
use Rattle.mir_func.specs.declared.variable.VarId.{VarId}
use Rattle.mir_func.specs.declared.variable.MarkValue.TheVariants.{Nothing, Constant, At, Pair}
use Rattle.mir_func.specs.declared.block.Block.{Block}
use Rattle.mir_func.specs.declared.item.Item.{Item}
use Rattle.mir_func.specs.declared.item.ItemKind.{ItemKind}
use Rattle.mir_func.specs.declared.item.ItemKind.TheVariants.{Code, Mark, Phi}
use Rattle.mir_func.specs.Graph.{below}
use Rattle.mir_func.specs.Strip.{stripped_item, stripped_items, stripped_blocks}
use Rattle.mir_func.specs.Positions.{position_of}
use Rattle.pass_trait.specs.Rule.{item}
use Rattle.spill_code.specs.declared.spilling.SlotAssignment.{SlotAssignment}
use Rattle.spill_code.specs.declared.spilling.Spilling.{Spilling}
use Rattle.spill_code.specs.Rewrite.{slot_of, first_used, other_used, first_defined, spilled_code, load, store, added, loads, stores, two_loads}
use Rattle.spill_code.specs.Rewrite.{code_items, kind_items}
use Rattle.spill_code.specs.Rewrite.{spilled_item, spilled_items, spilled_block, entry_stores, spilled_blocks}
use Rattle.spill_debug.specs.RewrittenDebugItems.{mark_asked, kind_asked, next_number, number_behind, items_asked, blocks_asked}
use Rattle.spill_proof.specs.Stripped.{AskedIsStripped, SpilledIsStripped}

module _ (s : Spilling) where
  -- ---- marks that ask by phis

  mark_bare : (k : ℕ) (v : VarId) (r : ℕ) (home : Option ℕ) (o : Origin) (l : Loc) (ys : List Item) →
      stripped_items (mark_asked s k v r home o l ++ ys) ≡ stripped_items ys
  mark_bare k v r None o l ys = refl
  mark_bare k v r (Some n) o l ys = refl

  kind_bare : (k : ℕ) (kind : ItemKind) (o : Origin) (l : Loc) (ys zs : List Item) → stripped_items ys ≡ stripped_items zs →
      stripped_items (kind_asked s k kind o l ++ ys) ≡ stripped_items (item kind o l ∷ zs)
  kind_bare k (Code i n) o l ys zs h = ap (λ (xs : List Item). item (Code i None) o l ∷ xs) h
  kind_bare k (Phi p n) o l ys zs h = h
  kind_bare k (Mark v Nothing) o l ys zs h = h
  kind_bare k (Mark v (Constant n)) o l ys zs h = h
  kind_bare k (Mark v (Pair q)) o l ys zs h = h
  kind_bare k (Mark v (At r)) o l ys zs h = mark_bare k v r (slot_of s.homes r) o l ys ∙ h

  items_bare : (k : ℕ) (xs : List Item) → stripped_items (items_asked s k xs) ≡ stripped_items xs
  items_bare k [] = refl
  items_bare k (x ∷ xs) =
      kind_bare k x.kind x.origin x.loc (items_asked s (next_number s.homes k x.kind) xs) xs (items_bare (next_number s.homes k x.kind) xs)

  blocks_bare : (k : ℕ) (bs : List Block) → stripped_blocks (blocks_asked s k bs) ≡ stripped_blocks bs
  blocks_bare k [] = refl
  blocks_bare k (b ∷ bs) =
      let e = items_bare k b.items in
      let es = blocks_bare (number_behind s.homes k b.items) bs in
      λ i. record { id = b.id; items = e i; source_end = b.source_end } ∷ es i

  -- ---- registers in slots

  loads_bare : (p : Pos) (r : ℕ) (z : Option ℕ) → stripped_items (loads p r z) ≡ loads p r z
  loads_bare p r None = refl
  loads_bare p r (Some n) = refl

  two_bare : (p : Pos) (os : List Operand) (z : Option ℕ) → stripped_items (two_loads s p os z) ≡ two_loads s p os z
  two_bare p os None = refl
  two_bare p os (Some n) = ap (λ (xs : List Item). added p (load s.first n) ∷ xs) (loads_bare p s.second (other_used s.homes n os))

  stores_bare : (p : Pos) (r : ℕ) (z : Option ℕ) → stripped_items (stores p r z) ≡ stores p r z
  stores_bare p r None = refl
  stores_bare p r (Some n) = refl

  code_bare : (i : Instruction) (n : Option ℕ) (o : Origin) (l : Loc) → stripped_items (code_items s i n o l) ≡ code_items s i None o l
  code_bare i n o l =
      let before = two_bare (position_of o) i.operands (first_used s.homes i.operands) in
      let after = stores_bare (below (position_of o)) s.first (first_defined s.homes i.operands) in
      filter_map-append stripped_item (two_loads s (position_of o) i.operands (first_used s.homes i.operands))
      (item (Code (spilled_code s i) n) o l ∷ stores (below (position_of o)) s.first (first_defined s.homes i.operands)) ∙
      (λ j. before j ++ (item (Code (spilled_code s i) None) o l ∷ after j))

  kind_spilled : (kind : ItemKind) (o : Origin) (l : Loc) (xs : List Item) → stripped_items (spilled_items s xs) ≡ spilled_items s (stripped_items xs) →
      stripped_items (kind_items s kind o l ++ spilled_items s xs) ≡ spilled_items s (stripped_items (item kind o l ∷ xs))
  kind_spilled (Code i n) o l xs h =
      let e = code_bare i n o l in
      filter_map-append stripped_item (code_items s i n o l) (spilled_items s xs) ∙ (λ j. e j ++ h j) ∙
      sym (flat_map-cons (spilled_item s) (item (Code i None) o l) (stripped_items xs))
  kind_spilled (Mark v m) o l xs h = h
  kind_spilled (Phi p n) o l xs h = h

  spilled_bare : (xs : List Item) → stripped_items (spilled_items s xs) ≡ spilled_items s (stripped_items xs)
  spilled_bare [] = refl
  spilled_bare (x ∷ xs) =
      ap stripped_items (flat_map-cons (spilled_item s) x xs) ∙ kind_spilled x.kind x.origin x.loc xs (spilled_bare xs)

  others_bare : (bs : List Block) → stripped_blocks (map (spilled_block s) bs) ≡ map (spilled_block s) (stripped_blocks bs)
  others_bare [] = refl
  others_bare (b ∷ bs) =
      let e = spilled_bare b.items in let es = others_bare bs in λ i. record { id = b.id; items = e i; source_end = b.source_end } ∷ es i

  entry_bare : (b : ℕ) (hs : List SlotAssignment) (ys : List Item) → stripped_items (entry_stores b hs ++ ys) ≡ entry_stores b hs ++ stripped_items ys
  entry_bare b [] ys = refl
  entry_bare b (h ∷ hs) ys = ap (λ (xs : List Item). added (record { block = b; item = 0 }) (store h.register h.slot) ∷ xs) (entry_bare b hs ys)

  spilled_blocks_bare : (entry : List SlotAssignment) (bs : List Block) →
      stripped_blocks (spilled_blocks s entry bs) ≡ spilled_blocks s entry (stripped_blocks bs)
  spilled_blocks_bare entry [] = refl
  spilled_blocks_bare entry (b ∷ bs) =
      let e = entry_bare b.id entry (spilled_items s b.items) ∙ ap (λ (xs : List Item). entry_stores b.id entry ++ xs) (spilled_bare b.items) in
      let es = others_bare bs in
      λ i. record { id = b.id; items = e i; source_end = b.source_end } ∷ es i

pub asked_is_stripped : AskedIsStripped
asked_is_stripped s k f = let e = blocks_bare s k f.blocks in λ i. record { name = f.name; slots = f.slots; objects = f.objects; blocks = e i }

pub spilled_is_stripped : SpilledIsStripped
spilled_is_stripped s entry blocks = spilled_blocks_bare s entry blocks
