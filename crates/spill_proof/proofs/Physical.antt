-- Without virtual registers there are none after spilling.
use Rattle.std.proofs.Common.{ℕ, ◌<◌, List, [], ◌∷◌, ◌++◌, map, All, Option, Some, None, Bool, true, false, cond, sym}
use Rattle.std.proofs.Common.{subst, pos}
use Rattle.std.proofs.lemmas.List.Concat.{flat_map-cons}
use Rattle.std.proofs.lemmas.List.Elements.{All-nil, All-cons, All-head, All-tail, All-append}
use Rattle.rv64_instr.specs.declared.operand.Operand.{Operand}
use Rattle.rv64_instr.specs.declared.operand.Operand.TheVariants.{Def, Use, Imm, Slot as OfSlot}
use Rattle.rv64_instr.specs.declared.place.Place.{Place}
use Rattle.rv64_instr.specs.declared.place.Place.TheVariants.{Register, Slot, Const}
use Rattle.rv64_instr.specs.LocationEffects.{names_slot}
use Rattle.mir_func.specs.declared.block.Block.{Block}
use Rattle.mir_func.specs.declared.item.Item.{Item}
use Rattle.mir_func.specs.declared.item.ItemKind.{ItemKind}
use Rattle.mir_func.specs.declared.item.ItemKind.TheVariants.{Code, Mark, Phi}
use Rattle.mir_func.specs.declared.location.Loc.{Loc}
use Rattle.mir_func.specs.declared.position.Origin.{Origin}
use Rattle.mir_func.specs.declared.position.Pos.{Pos}
use Rattle.mir_func.specs.declared.variable.MarkValue.TheVariants.{Nothing, Constant, At, Pair}
use Rattle.mir_func.specs.declared.variable.VarId.{VarId}
use Rattle.mir_func.specs.Graph.{below, block_start}
use Rattle.mir_func.specs.Sound.{AllItems}
use Rattle.mir_func.specs.SoundFrame.{IsPhysical, HasPhysical}
use Rattle.mir_func.specs.Positions.{position_of}
use Rattle.pass_trait.specs.Rule.{item, item_before, first_operand}
use Rattle.spill_code.specs.declared.spilling.SlotAssignment.{SlotAssignment}
use Rattle.spill_code.specs.declared.spilling.Spilling.{Spilling}
use Rattle.spill_code.specs.Rewrite.{slot_of, first_used, other_used, first_defined, stand_in, use_now, set_in, def_now, renamed_operand}
use Rattle.spill_code.specs.Rewrite.{spilled_code, load, store, added}
use Rattle.spill_code.specs.Rewrite.{loads, stores, two_loads, place_in, spilled_place, spilled_item, spilled_items, spilled_block}
use Rattle.spill_code.specs.Rewrite.{entry_stores, spilled_blocks}
use Rattle.spill_debug.specs.RewrittenDebugItems.{is_scratch, is_scratch_place, value_left, place_left, mark_asked, kind_asked, next_number, number_behind}
use Rattle.spill_debug.specs.RewrittenDebugItems.{items_asked, blocks_asked}

module _ (s : Spilling) (first : s.first < 32) (second : s.second < 32) where
  abbrev Each : Item → Type 0
  Each i = HasPhysical i.kind

  one : (x : Item) → Each x → All Each (x ∷ [])
  one x h = All-cons Each x [] h (All-nil Each)

  three : (a b c : Operand) → IsPhysical a → IsPhysical b → IsPhysical c → All IsPhysical (a ∷ b ∷ c ∷ [])
  three a b c x y z = All-cons IsPhysical a (b ∷ c ∷ []) x (All-cons IsPhysical b (c ∷ []) y (All-cons IsPhysical c [] z (All-nil IsPhysical)))

  real_load : (p : Pos) (r n : ℕ) → r < 32 → Each (added p (load r n))
  real_load p r n lt = three (Def r) (OfSlot n) (Imm (pos 0)) lt tt tt

  real_store : (p : Pos) (r n : ℕ) → r < 32 → Each (added p (store r n))
  real_store p r n lt = three (Use r) (OfSlot n) (Imm (pos 0)) lt tt tt

  real_loads : (p : Pos) (r : ℕ) (z : Option ℕ) → r < 32 → All Each (loads p r z)
  real_loads p r None lt = All-nil Each
  real_loads p r (Some n) lt = one (added p (load r n)) (real_load p r n lt)

  real_two : (p : Pos) (os : List Operand) (z : Option ℕ) → All Each (two_loads s p os z)
  real_two p os None = All-nil Each
  real_two p os (Some n) =
      All-cons Each (added p (load s.first n)) (loads p s.second (other_used s.homes n os)) (real_load p s.first n first)
      (real_loads p s.second (other_used s.homes n os) second)

  real_stores : (p : Pos) (z : Option ℕ) → All Each (stores p s.first z)
  real_stores p None = All-nil Each
  real_stores p (Some n) = one (added p (store s.first n)) (real_store p s.first n first)

  either : (z : Bool) → cond z s.first s.second < 32
  either true = first
  either false = second

  real_use : (slot : Option ℕ) (r : ℕ) → r < 32 → (z : Option ℕ) → stand_in s slot r z < 32
  real_use slot r lt None = lt
  real_use slot r lt (Some n) = either (names_slot slot n)

  real_def : (r : ℕ) → r < 32 → (z : Option ℕ) → set_in s r z < 32
  real_def r lt None = lt
  real_def r lt (Some n) = first

  real_operand : (slot : Option ℕ) (o : Operand) → IsPhysical o → IsPhysical (renamed_operand (use_now s slot) (def_now s) o)
  real_operand slot (Use r) h = real_use slot r h (slot_of s.homes r)
  real_operand slot (Def r) h = real_def r h (slot_of s.homes r)
  real_operand slot _ h = h

  real_operands : (slot : Option ℕ) (os : List Operand) → All IsPhysical os → All IsPhysical (map (renamed_operand (use_now s slot) (def_now s)) os)
  real_operands slot [] h = All-nil IsPhysical
  real_operands slot (o ∷ os) h =
      All-cons IsPhysical (renamed_operand (use_now s slot) (def_now s) o) (map (renamed_operand (use_now s slot) (def_now s)) os)
      (real_operand slot o (All-head IsPhysical o os h)) (real_operands slot os (All-tail IsPhysical o os h))

  real_place : (p : Option Place) (n : ℕ) → HasPhysical (Phi p n) → HasPhysical (Phi (spilled_place s.homes p) n)
  real_place None n h = h
  real_place (Some (Register r)) n h = by_home (slot_of s.homes r) where
    by_home : (z : Option ℕ) → HasPhysical (Phi (Some (place_in r z)) n)
    by_home None = h
    by_home (Some m) = tt
  real_place (Some (Slot m)) n h = h
  real_place (Some (Const z)) n h = h

  real_spilled : (x : ItemKind) (o : Origin) (l : Loc) → HasPhysical x → All Each (spilled_item s (item x o l))
  real_spilled (Code i n) o l h =
      let now : Item = item (Code (spilled_code s i) n) o l in
      let after : List Item = stores (below (position_of o)) s.first (first_defined s.homes i.operands) in
      All-append Each (two_loads s (position_of o) i.operands (first_used s.homes i.operands)) (now ∷ after)
      (real_two (position_of o) i.operands (first_used s.homes i.operands))
      (All-cons Each now after (real_operands (first_used s.homes i.operands) i.operands h)
      (real_stores (below (position_of o)) (first_defined s.homes i.operands)))
  real_spilled (Mark v m) o l h = one (item (Mark v m) o l) h
  real_spilled (Phi p n) o l h = one (item (Phi (spilled_place s.homes p) n) o l) (real_place p n h)

  real_items : (xs : List Item) → All Each xs → All Each (spilled_items s xs)
  real_items [] h = All-nil Each
  real_items (x ∷ xs) h =
      subst (All Each) (sym (flat_map-cons (spilled_item s) x xs))
      (All-append Each (spilled_item s x) (spilled_items s xs) (real_spilled x.kind x.origin x.loc (All-head Each x xs h))
      (real_items xs (All-tail Each x xs h)))

  -- ---- marks that ask by phis

  real_value : (v : VarId) (r : ℕ) (z : Bool) → HasPhysical (Mark v (At r)) → HasPhysical (Mark v (cond z Nothing (At r)))
  real_value v r true h = tt
  real_value v r false h = h

  real_mark : (k : ℕ) (v : VarId) (r : ℕ) (home : Option ℕ) (o : Origin) (l : Loc) → HasPhysical (Mark v (At r)) → All Each (mark_asked s k v r home o l)
  real_mark k v r None o l h = one (item (Mark v (value_left s r)) o l) (real_value v r (is_scratch s r) h)
  real_mark k v r (Some n) o l h =
      All-cons Each (item_before (Phi (Some (Register r)) k) o) (item (Mark v (Pair (first_operand k))) o l ∷ []) h
      (one (item (Mark v (Pair (first_operand k))) o l) tt)

  real_left : (p : Place) (n : ℕ) (z : Bool) → HasPhysical (Phi (Some p) n) → HasPhysical (Phi (cond z None (Some p)) n)
  real_left p n true h = tt
  real_left p n false h = h

  real_kind : (k : ℕ) (x : ItemKind) (o : Origin) (l : Loc) → HasPhysical x → All Each (kind_asked s k x o l)
  real_kind k (Code i n) o l h = one (item (Code i n) o l) h
  real_kind k (Phi None n) o l h = one (item (Phi None n) o l) h
  real_kind k (Phi (Some p) n) o l h = one (item (Phi (place_left s (Some p)) n) o l) (real_left p n (is_scratch_place s p) h)
  real_kind k (Mark v Nothing) o l h = one (item (Mark v Nothing) o l) h
  real_kind k (Mark v (Constant n)) o l h = one (item (Mark v (Constant n)) o l) h
  real_kind k (Mark v (Pair q)) o l h = one (item (Mark v (Pair q)) o l) h
  real_kind k (Mark v (At r)) o l h = real_mark k v r (slot_of s.homes r) o l h

  real_asked : (k : ℕ) (xs : List Item) → All Each xs → All Each (items_asked s k xs)
  real_asked k [] h = All-nil Each
  real_asked k (x ∷ xs) h =
      All-append Each (kind_asked s k x.kind x.origin x.loc) (items_asked s (next_number s.homes k x.kind) xs)
      (real_kind k x.kind x.origin x.loc (All-head Each x xs h)) (real_asked (next_number s.homes k x.kind) xs (All-tail Each x xs h))

  abbrev Inside : Block → Type 0
  Inside b = All Each b.items

  real_others : (bs : List Block) → AllItems Each bs → AllItems Each (map (spilled_block s) bs)
  real_others [] h = All-nil Inside
  real_others (b ∷ bs) h =
      All-cons Inside (spilled_block s b) (map (spilled_block s) bs) (real_items b.items (All-head Inside b bs h)) (real_others bs (All-tail Inside b bs h))

  real_entry : (b : ℕ) (entry : List SlotAssignment) → All (λ (h : SlotAssignment). h.register < 32) entry → All Each (entry_stores b entry)
  real_entry b [] h = All-nil Each
  real_entry b (e ∷ es) h =
      All-cons Each (added (block_start b) (store e.register e.slot)) (entry_stores b es)
      (real_store (block_start b) e.register e.slot (All-head (λ (h : SlotAssignment). h.register < 32) e es h))
      (real_entry b es (All-tail (λ (h : SlotAssignment). h.register < 32) e es h))

  pub real_blocks : (entry : List SlotAssignment) → All (λ (h : SlotAssignment). h.register < 32) entry → (bs : List Block) → AllItems Each bs → AllItems Each
      (spilled_blocks s entry bs)
  real_blocks entry low [] h = All-nil Inside
  real_blocks entry low (b ∷ bs) h =
      All-cons Inside (record { id = b.id; items = entry_stores b.id entry ++ spilled_items s b.items; source_end = b.source_end }) (map (spilled_block s) bs)
      (All-append Each (entry_stores b.id entry) (spilled_items s b.items) (real_entry b.id entry low) (real_items b.items (All-head Inside b bs h)))
      (real_others bs (All-tail Inside b bs h))

  pub real_all_asked : (k : ℕ) (bs : List Block) → AllItems Each bs → AllItems Each (blocks_asked s k bs)
  real_all_asked k [] h = All-nil Inside
  real_all_asked k (b ∷ bs) h =
      All-cons Inside (record { id = b.id; items = items_asked s k b.items; source_end = b.source_end }) (blocks_asked s (number_behind s.homes k b.items) bs)
      (real_asked k b.items (All-head Inside b bs h)) (real_all_asked (number_behind s.homes k b.items) bs (All-tail Inside b bs h))
