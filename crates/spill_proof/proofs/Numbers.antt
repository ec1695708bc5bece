-- The numbers of a function after spilling: fresh ones for marks of spilled registers.
use Rattle.std.proofs.Common.{◌≡◌, ℕ, suc, ◌+◌, ◌<◌, ◌≤◌, List, [], ◌∷◌, ◌++◌, max, length, map, Option, Some, None, Bool, true, false, cond}
use Rattle.std.proofs.Common.{refl, ap, ◌∙◌, arith}
use Rattle.std.proofs.Common.{length-append, append-nil}
use Rattle.std.specs.List.{flat_map}
use Rattle.std.proofs.lemmas.List.Concat.{flat_map-cons}
use Rattle.std.proofs.lemmas.Grind.{flat_map-append}
use Rattle.rv64_instr.specs.declared.operand.Operand.{Operand}
use Rattle.rv64_instr.specs.declared.place.Place.TheVariants.{Register}
use Rattle.rv64_instr.specs.Instruction.{Instruction}
use Rattle.mir_func.specs.declared.block.Block.{Block}
use Rattle.mir_func.specs.declared.item.Item.{Item}
use Rattle.mir_func.specs.declared.item.ItemKind.{ItemKind}
use Rattle.mir_func.specs.declared.item.ItemKind.TheVariants.{Code, Mark, Phi}
use Rattle.mir_func.specs.declared.location.Loc.{Loc}
use Rattle.mir_func.specs.declared.position.Origin.{Origin}
use Rattle.mir_func.specs.declared.position.Pos.{Pos}
use Rattle.mir_func.specs.declared.variable.MarkValue.TheVariants.{Nothing, Constant, At, Pair}
use Rattle.mir_func.specs.declared.variable.VarId.{VarId}
use Rattle.mir_func.specs.Graph.{below, block_start}
use Rattle.mir_func.specs.Sound.{items_of}
use Rattle.mir_func.specs.Positions.{position_of}
use Rattle.pass_trait.specs.Rule.{item, item_before, first_operand}
use Rattle.pass_trait.specs.Sizes.{greatest, numbers_of}
use Rattle.pass_salvage.proofs.Greatest.{greatest_append}
use Rattle.spill_code.specs.declared.spilling.SlotAssignment.{SlotAssignment}
use Rattle.spill_code.specs.declared.spilling.Spilling.{Spilling}
use Rattle.spill_code.specs.Rewrite.{slot_of, first_used, other_used, first_defined, spilled_code, load, store, added, loads, stores, two_loads}
use Rattle.spill_code.specs.Rewrite.{code_items, spilled_place}
use Rattle.spill_code.specs.Rewrite.{spilled_item, spilled_items, spilled_block, entry_stores, spilled_blocks}
use Rattle.spill_debug.specs.RewrittenDebugItems.{is_scratch, value_left, place_left, mark_asked, kind_asked, number_past, next_number}
use Rattle.spill_debug.specs.RewrittenDebugItems.{number_behind, items_asked, number_beyond, blocks_asked}

abbrev pub nums : List Item → List ℕ
nums xs = flat_map (λ (i : Item). numbers_of i.kind) xs

abbrev pub top : List Item → ℕ
top xs = greatest (nums xs)

pub top_append : (xs ys : List Item) → top (xs ++ ys) ≡ max (top xs) (top ys)
top_append xs ys = ap greatest (flat_map-append (λ (i : Item). numbers_of i.kind) xs ys) ∙ greatest_append (nums xs) (nums ys)

top_cons : (x : Item) (ys : List Item) → top (x ∷ ys) ≡ max (greatest (numbers_of x.kind)) (top ys)
top_cons x ys = ap greatest (flat_map-cons (λ (i : Item). numbers_of i.kind) x ys) ∙ greatest_append (numbers_of x.kind) (nums ys)

zero_max : (a : ℕ) → max 0 a ≡ a
zero_max a = omega arith

max_zero : (a : ℕ) → max a 0 ≡ a
max_zero a = omega arith

top_one : (x : Item) → top (x ∷ []) ≡ greatest (numbers_of x.kind)
top_one x = top_cons x [] ∙ max_zero (greatest (numbers_of x.kind))

module _ (s : Spilling) where
  -- ---- how many numbers are given

  past_one : (k : ℕ) (home : Option ℕ) → number_past k home ≤ k + 1
  past_one k None = omega arith
  past_one k (Some n) = omega arith

  next_one : (k : ℕ) (x : ItemKind) → next_number s.homes k x ≤ k + 1
  next_one k (Code i n) = omega arith
  next_one k (Phi p n) = omega arith
  next_one k (Mark v Nothing) = omega arith
  next_one k (Mark v (Constant n)) = omega arith
  next_one k (Mark v (Pair q)) = omega arith
  next_one k (Mark v (At r)) = past_one k (slot_of s.homes r)

  pub behind_most : (k : ℕ) (xs : List Item) → number_behind s.homes k xs ≤ k + length xs
  behind_most k [] = omega arith
  behind_most k (x ∷ xs) = let a = next_one k x.kind in let b = behind_most (next_number s.homes k x.kind) xs in omega (arith, a, b)

  pub beyond_most : (k : ℕ) (bs : List Block) → number_beyond s.homes k bs ≤ k + length (items_of bs)
  beyond_most k [] = omega arith
  beyond_most k (b ∷ bs) =
      let a = behind_most k b.items in
      let c = beyond_most (number_behind s.homes k b.items) bs in
      let e : length (items_of (b ∷ bs)) ≡ length b.items + length (items_of bs) =
      ap length (flat_map-cons (λ (c : Block). c.items) b bs) ∙ length-append b.items (items_of bs) in
      omega (arith, a, c, e)

  up_past : (k : ℕ) (home : Option ℕ) → k ≤ number_past k home
  up_past k None = omega arith
  up_past k (Some n) = omega arith

  up_next : (k : ℕ) (x : ItemKind) → k ≤ next_number s.homes k x
  up_next k (Code i n) = omega arith
  up_next k (Phi p n) = omega arith
  up_next k (Mark v Nothing) = omega arith
  up_next k (Mark v (Constant n)) = omega arith
  up_next k (Mark v (Pair q)) = omega arith
  up_next k (Mark v (At r)) = up_past k (slot_of s.homes r)

  -- ---- and which numbers there are

  -- all are as before, or below the next fresh one
  abbrev IsWithin : (m : ℕ) (old : ℕ) (next : ℕ) → Type 0
  IsWithin m old next = m < max (suc old) next

  one_item : (x : Item) → spilled_items s (x ∷ []) ≡ spilled_item s x
  one_item x = flat_map-cons (spilled_item s) x [] ∙ append-nil (spilled_item s x)

  no_loads : (p : Pos) (r : ℕ) (z : Option ℕ) → top (loads p r z) ≡ 0
  no_loads p r None = refl
  no_loads p r (Some n) = refl

  no_two : (p : Pos) (os : List Operand) (z : Option ℕ) → top (two_loads s p os z) ≡ 0
  no_two p os None = refl
  no_two p os (Some n) = top_cons (added p (load s.first n)) (loads p s.second (other_used s.homes n os)) ∙ zero_max
      (top (loads p s.second (other_used s.homes n os))) ∙
      no_loads p s.second (other_used s.homes n os)

  no_stores : (p : Pos) (r : ℕ) (z : Option ℕ) → top (stores p r z) ≡ 0
  no_stores p r None = refl
  no_stores p r (Some n) = refl

  pub no_entry : (b : ℕ) (entry : List SlotAssignment) → top (entry_stores b entry) ≡ 0
  no_entry b [] = refl
  no_entry b (h ∷ hs) = top_cons (added (block_start b) (store h.register h.slot)) (entry_stores b hs) ∙ zero_max (top (entry_stores b hs)) ∙ no_entry b hs

  code_numbers : (i j : Instruction) (n : Option ℕ) → numbers_of (Code i n) ≡ numbers_of (Code j n)
  code_numbers i j None = refl
  code_numbers i j (Some n) = refl

  within_same : (m old next : ℕ) → m ≡ old → IsWithin m old next
  within_same m old next e = omega (arith, e)

  three : (a b c d e f : ℕ) → a ≡ 0 → c ≡ 0 → e ≡ max b c → d ≡ max a e → b ≡ f → d ≡ f
  three a b c d e f x y z u w = omega (arith, x, y, z, u, w)

  top_code : (i : Instruction) (n : Option ℕ) (o : Origin) (l : Loc) → top (code_items s i n o l) ≡ greatest (numbers_of (Code i n))
  top_code i n o l =
      let before : List Item = two_loads s (position_of o) i.operands (first_used s.homes i.operands) in
      let after : List Item = stores (below (position_of o)) s.first (first_defined s.homes i.operands) in
      let now : Item = item (Code (spilled_code s i) n) o l in
      three (top before) (greatest (numbers_of now.kind)) (top after) (top (code_items s i n o l)) (top (now ∷ after)) (greatest (numbers_of (Code i n)))
      (no_two (position_of o) i.operands (first_used s.homes i.operands)) (no_stores (below (position_of o)) s.first (first_defined s.homes i.operands))
      (top_cons now after) (top_append before (now ∷ after)) (ap greatest (code_numbers (spilled_code s i) i n))

  top_kind : (x : ItemKind) (o : Origin) (l : Loc) → top (spilled_items s (item x o l ∷ [])) ≡ greatest (numbers_of x)
  top_kind (Code i n) o l = ap top (one_item (item (Code i n) o l)) ∙ top_code i n o l
  top_kind (Mark v m) o l = ap top (one_item (item (Mark v m) o l)) ∙ top_one (item (Mark v m) o l)
  top_kind (Phi p n) o l = ap top (one_item (item (Phi p n) o l)) ∙ top_one (item (Phi (spilled_place s.homes p) n) o l)

  value_top : (v : VarId) (r : ℕ) (z : Bool) → greatest (numbers_of (Mark v (cond z Nothing (At r)))) ≡ 0
  value_top v r true = refl
  value_top v r false = refl

  top_two : (v : VarId) (r k : ℕ) (o : Origin) (l : Loc) →
      top (spilled_items s (item_before (Phi (Some (Register r)) k) o ∷ item (Mark v (Pair (first_operand k))) o l ∷ [])) ≡ k
  top_two v r k o l =
      let phi : Item = item_before (Phi (Some (Register r)) k) o in
      let mark : Item = item (Mark v (Pair (first_operand k))) o l in
      ap top (flat_map-cons (spilled_item s) phi (mark ∷ [])) ∙ top_append (spilled_item s phi) (spilled_items s (mark ∷ [])) ∙
      (λ i. max (top_one (item_before (Phi (spilled_place s.homes (Some (Register r))) k) o) i) (top_kind (Mark v (Pair (first_operand k))) o l i)) ∙ same_max
      k where
        same_max : (n : ℕ) → max (max n 0) (max n 0) ≡ n
        same_max n = omega arith

  top_mark : (k : ℕ) (v : VarId) (r : ℕ) (home : Option ℕ) (o : Origin) (l : Loc) →
      IsWithin (top (spilled_items s (mark_asked s k v r home o l))) 0 (number_past k home)
  top_mark k v r None o l = within_same _ 0 k (top_kind (Mark v (value_left s r)) o l ∙ value_top v r (is_scratch s r))
  top_mark k v r (Some n) o l = let e = top_two v r k o l in omega (arith, e)

  pub top_asked : (k : ℕ) (x : ItemKind) (o : Origin) (l : Loc) →
      IsWithin (top (spilled_items s (kind_asked s k x o l))) (greatest (numbers_of x)) (next_number s.homes k x)
  top_asked k (Code i n) o l = within_same _ _ k (top_kind (Code i n) o l)
  top_asked k (Phi p n) o l = within_same _ _ k (top_kind (Phi (place_left s p) n) o l)
  top_asked k (Mark v Nothing) o l = within_same _ _ k (top_kind (Mark v Nothing) o l)
  top_asked k (Mark v (Constant n)) o l = within_same _ _ k (top_kind (Mark v (Constant n)) o l)
  top_asked k (Mark v (Pair q)) o l = within_same _ _ k (top_kind (Mark v (Pair q)) o l)
  top_asked k (Mark v (At r)) o l = top_mark k v r (slot_of s.homes r) o l

  both_within : (a b c d m e f n : ℕ) → IsWithin a c f → IsWithin b d n → m ≡ max a b → e ≡ max c d → f ≤ n → IsWithin m e n
  both_within a b c d m e f n h g is is' le = omega (arith, h, g, is, is', le)

  up_behind : (k : ℕ) (xs : List Item) → k ≤ number_behind s.homes k xs
  up_behind k [] = omega arith
  up_behind k (x ∷ xs) = let a = up_next k x.kind in let b = up_behind (next_number s.homes k x.kind) xs in omega (arith, a, b)

  up_beyond : (k : ℕ) (bs : List Block) → k ≤ number_beyond s.homes k bs
  up_beyond k [] = omega arith
  up_beyond k (b ∷ bs) = let a = up_behind k b.items in let c = up_beyond (number_behind s.homes k b.items) bs in omega (arith, a, c)

  top_items : (k : ℕ) (xs : List Item) → IsWithin (top (spilled_items s (items_asked s k xs))) (top xs) (number_behind s.homes k xs)
  top_items k [] = omega arith
  top_items k (x ∷ xs) =
      let here : List Item = kind_asked s k x.kind x.origin x.loc in
      let next : ℕ = next_number s.homes k x.kind in
      let rest : List Item = items_asked s next xs in
      both_within (top (spilled_items s here)) (top (spilled_items s rest)) (greatest (numbers_of x.kind)) (top xs) (top (spilled_items s (here ++ rest)))
      (top (x ∷ xs)) next (number_behind s.homes next xs) (top_asked k x.kind x.origin x.loc) (top_items next xs)
      (ap top (flat_map-append (spilled_item s) here rest) ∙ top_append (spilled_items s here) (spilled_items s rest)) (top_cons x xs) (up_behind next xs)

  abbrev inside : Block → List Item
  inside b = b.items

  top_others : (k : ℕ) (bs : List Block) →
      IsWithin (top (items_of (map (spilled_block s) (blocks_asked s k bs)))) (top (items_of bs)) (number_beyond s.homes k bs)
  top_others k [] = omega arith
  top_others k (b ∷ bs) =
      let next : ℕ = number_behind s.homes k b.items in
      let here : List Item = spilled_items s (items_asked s k b.items) in
      let rest : List Block = map (spilled_block s) (blocks_asked s next bs) in
      let first : Block = record { id = b.id; items = here; source_end = b.source_end } in
      both_within (top here) (top (items_of rest)) (top b.items) (top (items_of bs)) (top (items_of (first ∷ rest))) (top (items_of (b ∷ bs))) next
      (number_beyond s.homes next bs) (top_items k b.items) (top_others next bs) (ap top (flat_map-cons inside first rest) ∙ top_append here (items_of rest))
      (ap top (flat_map-cons inside b bs) ∙ top_append b.items (items_of bs)) (up_beyond next bs)

  pub top_blocks : (k : ℕ) (entry : List SlotAssignment) (bs : List Block) →
      IsWithin (top (items_of (spilled_blocks s entry (blocks_asked s k bs)))) (top (items_of bs)) (number_beyond s.homes k bs)
  top_blocks k entry [] = omega arith
  top_blocks k entry (b ∷ bs) =
      let next : ℕ = number_behind s.homes k b.items in
      let stores : List Item = entry_stores b.id entry in
      let here : List Item = spilled_items s (items_asked s k b.items) in
      let rest : List Block = map (spilled_block s) (blocks_asked s next bs) in
      let first : Block = record { id = b.id; items = stores ++ here; source_end = b.source_end } in
      both_within (top here) (top (items_of rest)) (top b.items) (top (items_of bs)) (top (items_of (first ∷ rest))) (top (items_of (b ∷ bs))) next
      (number_beyond s.homes next bs) (top_items k b.items) (top_others next bs)
      (ap top (flat_map-cons inside first rest) ∙ top_append (stores ++ here) (items_of rest) ∙
      ap (λ (n : ℕ). max n (top (items_of rest))) (top_append stores here ∙ ap (λ (n : ℕ). max n (top here)) (no_entry b.id entry) ∙ zero_max (top here)))
      (ap top (flat_map-cons inside b bs) ∙ top_append b.items (items_of bs)) (up_beyond next bs)
