-- What is added up over the items of a function, before and after spilling.
use Rattle.std.proofs.Common.{◌≡◌, ℕ, ◌+◌, ◌≤◌, List, [], ◌∷◌, ◌++◌, map, ap, ◌∙◌, arith}
use Rattle.std.specs.List.{flat_map}
use Rattle.std.proofs.lemmas.List.Concat.{flat_map-cons}
use Rattle.std.proofs.lemmas.Grind.{flat_map-append}
use Rattle.mir_func.specs.declared.block.Block.{Block}
use Rattle.mir_func.specs.declared.item.Item.{Item}
use Rattle.mir_func.specs.Sound.{items_of}
use Rattle.spill_code.specs.declared.spilling.SlotAssignment.{SlotAssignment}
use Rattle.spill_code.specs.declared.spilling.Spilling.{Spilling}
use Rattle.spill_code.specs.Rewrite.{spilled_item, spilled_items, spilled_block, entry_stores, spilled_blocks}
use Rattle.spill_debug.specs.RewrittenDebugItems.{kind_asked, next_number, number_behind, items_asked, blocks_asked}

pub record IsMeasure (m : List Item → ℕ) : Type 0 where
  pub none : m [] ≡ 0
  pub more : (xs ys : List Item) → m (xs ++ ys) ≡ m xs + m ys

module _ (s : Spilling) (m w : List Item → ℕ) (mm : IsMeasure m) (ww : IsMeasure w)
    (bound : (k : ℕ) (x : Item) → m (spilled_items s (kind_asked s k x.kind x.origin x.loc)) ≤ w (x ∷ [])) where
  sum_le : (a b c d e f : ℕ) → e ≡ a + b → f ≡ c + d → a ≤ c → b ≤ d → e ≤ f
  sum_le a b c d e f is is' le le' = omega (arith, is, is', le, le')

  items_bound : (k : ℕ) (xs : List Item) → m (spilled_items s (items_asked s k xs)) ≤ w xs
  items_bound k [] = let e = mm.none in omega (arith, e)
  items_bound k (x ∷ xs) =
      let here : List Item = kind_asked s k x.kind x.origin x.loc in
      let rest : List Item = items_asked s (next_number s.homes k x.kind) xs in
      sum_le (m (spilled_items s here)) (m (spilled_items s rest)) (w (x ∷ [])) (w xs) (m (spilled_items s (here ++ rest))) (w (x ∷ xs))
      (ap m (flat_map-append (spilled_item s) here rest) ∙ mm.more (spilled_items s here) (spilled_items s rest)) (ww.more (x ∷ []) xs)
      (bound k x) (items_bound (next_number s.homes k x.kind) xs)

  abbrev inside : Block → List Item
  inside b = b.items

  others_bound : (k : ℕ) (bs : List Block) → m (items_of (map (spilled_block s) (blocks_asked s k bs))) ≤ w (items_of bs)
  others_bound k [] = let e = mm.none in omega (arith, e)
  others_bound k (b ∷ bs) =
      let here : List Item = spilled_items s (items_asked s k b.items) in
      let rest : List Block = map (spilled_block s) (blocks_asked s (number_behind s.homes k b.items) bs) in
      let first : Block = record { id = b.id; items = here; source_end = b.source_end } in
      sum_le (m here) (m (items_of rest)) (w b.items) (w (items_of bs)) (m (items_of (first ∷ rest))) (w (items_of (b ∷ bs)))
      (ap m (flat_map-cons inside first rest) ∙ mm.more here (items_of rest)) (ap w (flat_map-cons inside b bs) ∙ ww.more b.items (items_of bs))
      (items_bound k b.items) (others_bound (number_behind s.homes k b.items) bs)

  -- with so much for the stores at the start
  pub blocks_bound : (k most : ℕ) (entry : List SlotAssignment) (bs : List Block) → ((b : ℕ) → m (entry_stores b entry) ≤ most) →
      m (items_of (spilled_blocks s entry (blocks_asked s k bs))) ≤ most + w (items_of bs)
  blocks_bound k most entry [] few = let e = mm.none in omega (arith, e)
  blocks_bound k most entry (b ∷ bs) few =
      let stores : List Item = entry_stores b.id entry in
      let here : List Item = spilled_items s (items_asked s k b.items) in
      let rest : List Block = map (spilled_block s) (blocks_asked s (number_behind s.homes k b.items) bs) in
      let first : Block = record { id = b.id; items = stores ++ here; source_end = b.source_end } in
      let total : m (items_of (first ∷ rest)) ≡ m (stores ++ here) + m (items_of rest) =
      ap m (flat_map-cons inside first rest) ∙ mm.more (stores ++ here) (items_of rest) in
      let both : m (stores ++ here) ≡ m stores + m here = mm.more stores here in
      let before : w (items_of (b ∷ bs)) ≡ w b.items + w (items_of bs) = ap w (flat_map-cons inside b bs) ∙ ww.more b.items (items_of bs) in
      let a = few b.id in
      let c = items_bound k b.items in
      let d = others_bound (number_behind s.homes k b.items) bs in
      omega (arith, total, both, before, a, c, d)
