-- A function with registers in slots is a function still.
use Rattle.std.proofs.Common.{◌≡◌, ◌⊎◌, inl, inr, ℕ, zero, suc, ◌+◌, ◌≤◌, List, [], ◌∷◌, ◌++◌, map, All, Contains, Option, Some, None, Bool}
use Rattle.std.proofs.Common.{true, false, cond, ◌||◌, nat_eq, length, append_assoc}
use Rattle.std.proofs.lemmas.Bool.{or_right}
use Rattle.std.proofs.Common.{refl, sym, ap, ◌∙◌, subst, arith}
use Rattle.std.specs.Prelude.{pos}
use Rattle.std.proofs.lemmas.List.Concat.{flat_map-cons}
use Rattle.std.proofs.lemmas.List.Elements.{All-nil, All-cons, All-head, All-tail, All-append, Contains-append_left, Contains-append_right}
use Rattle.std.proofs.lemmas.List.Elements.{All-map, All-weaker}
use Rattle.rv64_instr.specs.declared.operand.Operand.{Operand}
use Rattle.rv64_instr.specs.declared.operand.Operand.TheVariants.{Def, Use, Imm, Slot as OfSlot, Outgoing}
use Rattle.rv64_instr.specs.declared.place.Place.{Place}
use Rattle.rv64_instr.specs.declared.place.Place.TheVariants.{Register, Slot, Const}
use Rattle.rv64_instr.specs.DefsAndUses.{caller_saved, reads, sets}
use Rattle.rv64_instr.specs.Instruction.{Instruction}
use Rattle.rv64_instr.specs.LocationEffects.{has_implicit_uses, names_slot}
use Rattle.rv64_instr.specs.Row.{Row, Calls, Addresses, Loads, Stores, LoadsSlot, StoresSlot, Branches, Jumps, Returns, Unfit, row_of}
use Rattle.rv64_instr.specs.Row.{Base, PointedBy, ObjectAt, BesidePart}
use Rattle.mir_func.specs.declared.debug_substitution.OperandPair.{OperandPair}
use Rattle.mir_func.specs.declared.exit.Exit.TheVariants.{Onward}
use Rattle.mir_func.specs.declared.location.Loc.{Loc}
use Rattle.mir_func.specs.declared.object.Object.{Object}
use Rattle.mir_func.specs.declared.position.Pos.{Pos}
use Rattle.mir_func.specs.declared.position.Origin.{Origin}
use Rattle.mir_func.specs.declared.position.Origin.TheVariants.{Kept, Before}
use Rattle.mir_func.specs.declared.block.Block.{Block}
use Rattle.mir_func.specs.declared.item.Item.{Item}
use Rattle.mir_func.specs.declared.item.ItemKind.{ItemKind}
use Rattle.mir_func.specs.declared.item.ItemKind.TheVariants.{Code, Mark, Phi}
use Rattle.mir_func.specs.Exits.{row_exit, exit_of, IsAlways}
use Rattle.mir_func.specs.Function.{Function}
use Rattle.mir_func.specs.Limits.{MAX_SLOTS}
use Rattle.mir_func.specs.declared.variable.VarId.{VarId}
use Rattle.mir_func.specs.declared.variable.MarkValue.{MarkValue}
use Rattle.mir_func.specs.Graph.{below, block_start}
use Rattle.mir_func.proofs.Passed.{passes_longer}
use Rattle.mir_func.specs.Sound.{AreApart, AllItems, ids_of, number_of, code_number, OriginIn, TargetIn, TargetsIn, SlotIn, PassedIn, SlotsIn, PlaceIn}
use Rattle.mir_func.specs.Sound.{BaseHasBytes, ObjectIn, ObjectsIn, IsNotPointer, LeavesPointer, IsSound, PassesFirst, KindPassesFirst}
use Rattle.mir_func.specs.Positions.{position_of}
use Rattle.pass_trait.specs.Rule.{item}
use Rattle.spill_code.specs.declared.spilling.SlotAssignment.{SlotAssignment}
use Rattle.spill_code.specs.declared.spilling.Spilling.{Spilling}
use Rattle.spill_code.specs.Rewrite.{slot_of, stand_in, use_now, set_in, def_now, renamed_operand, first_used, other_used, first_defined}
use Rattle.spill_code.specs.Rewrite.{spilled_code, load, store, added, loads}
use Rattle.spill_code.specs.Rewrite.{stores, two_loads, code_items, place_in, spilled_place, kind_items, spilled_item, spilled_items, spilled_block}
use Rattle.spill_code.specs.Rewrite.{entry_stores, first_block, spilled_blocks}
use Rattle.spill_select.specs.spill_simulation.MaySpill.{uses_in, defs_in, FitsCode, Fits, AreHomes}
use Rattle.spill_select.specs.spill_simulation.Follows.{MaySpill}
use Rattle.spill_select.proofs.spill_simulation.Explicit.{first_from, other_from, used_is, other_is, defined_is, explicit}
use Rattle.spill_select.proofs.spill_simulation.Near.{keeps_zero}
use Rattle.spill_select.proofs.spill_simulation.Rows.{renamed_base, renamed_row, row_renamed}
use Rattle.spill_select.proofs.spill_simulation.Shape.{kept_def}
use Rattle.spill_debug.proofs.Grown.{IsExtra, IsLike, Grown, none, grows, BlocksGrow, no_blocks, next_block, sound_grown}
use Rattle.spill_proof.specs.Sound.{slots_now, SpilledIsSound}

-- ---- rows with other registers

exit_renamed : (u d : ℕ → ℕ) (r : Row) → row_exit (renamed_row u d r) ≡ row_exit r
exit_renamed u d (Branches op a b t) = refl
exit_renamed u d (Jumps t) = refl
exit_renamed u d _ = refl

pub target_renamed : (u d : ℕ → ℕ) (ids : List ℕ) (r : Row) → TargetIn ids r → TargetIn ids (renamed_row u d r)
target_renamed u d ids (Branches op a b t) h = h
target_renamed u d ids (Jumps t) h = h
target_renamed u d ids _ h = tt

pub slot_renamed : (u d : ℕ → ℕ) (slots : List ℕ) (r : Row) → SlotIn slots r → SlotIn slots (renamed_row u d r)
slot_renamed u d slots (LoadsSlot rd n) h = h
slot_renamed u d slots (StoresSlot rs n) h = h
slot_renamed u d slots _ h = tt

pub first_renamed : (u d : ℕ → ℕ) (slots : List ℕ) (r : Row) → PassesFirst slots r → PassesFirst slots (renamed_row u d r)
first_renamed u d slots (Calls call) h = h
first_renamed u d slots _ h = tt

slot_more : (slots more : List ℕ) (r : Row) → SlotIn slots r → SlotIn (slots ++ more) r
slot_more slots more (LoadsSlot rd n) h = Contains-append_left slots more n h
slot_more slots more (StoresSlot rs n) h = Contains-append_left slots more n h
slot_more slots more _ h = tt

base_renamed : (u d : ℕ → ℕ) (os : List Object) (b : Base) (n : ℕ) → BaseHasBytes os b n → BaseHasBytes os (renamed_base u d b) n
base_renamed u d os (PointedBy r) n h = tt
base_renamed u d os (ObjectAt m) n h = h
base_renamed u d os (BesidePart r y) n h = tt

pub object_renamed : (u d : ℕ → ℕ) (os : List Object) (r : Row) → ObjectIn os r → ObjectIn os (renamed_row u d r)
object_renamed u d os (Addresses rd n offset) h = h
object_renamed u d os (Loads rd op base offset) h = base_renamed u d os base _ h
object_renamed u d os (Stores op rs base offset) h = base_renamed u d os base _ h
object_renamed u d os _ h = tt

-- what reads a register by an explicit operand is no jump, and what sets one goes on
reads_no_jump : (r : Row) (q : ℕ) → Contains (reads r) q → IsAlways (row_exit r) → ⊥
reads_no_jump (Jumps t) q (k, lt, e) h = absurd (omega (arith, lt))
reads_no_jump (Branches op a b t) q k h = absurd h
reads_no_jump (Returns v) q k h = absurd h
reads_no_jump Unfit q k h = absurd h
reads_no_jump _ q k h = absurd h

sets_onward : (r : Row) (q : ℕ) → Contains (sets r) q → row_exit r ≡ Onward
sets_onward (Branches op a b t) q (k, lt, e) = absurd (omega (arith, lt))
sets_onward (Jumps t) q (k, lt, e) = absurd (omega (arith, lt))
sets_onward (Returns v) q (k, lt, e) = absurd (omega (arith, lt))
sets_onward Unfit q (k, lt, e) = absurd (omega (arith, lt))
sets_onward _ q k = refl

abbrev list_any_two : List ℕ → Bool
list_any_two [] = false
list_any_two (x ∷ xs) = nat_eq x 2 || list_any_two xs

two_in : (xs : List ℕ) → Contains xs 2 → list_any_two xs ≡ true
two_in [] (k, lt, e) = absurd (omega (arith, lt))
two_in (x ∷ xs) (zero, lt, e) = by_head x e where
  by_head : (y : ℕ) → y ≡ 2 → list_any_two (y ∷ xs) ≡ true
  by_head y e = ap (λ (z : ℕ). nat_eq z 2 || list_any_two xs) e
two_in (x ∷ xs) (suc k, lt, e) = or_right (nat_eq x 2) (list_any_two xs) (two_in xs (k, omega (arith, lt), e))

no_pointer_saved : Contains caller_saved 2 → ⊥
no_pointer_saved k = let bad : false ≡ true = two_in caller_saved k in cc

home_in : (hs : List SlotAssignment) (r n : ℕ) → slot_of hs r ≡ Some n → Contains (map (λ (h : SlotAssignment). h.slot) hs) n
home_in [] r n e = cc
home_in (h ∷ hs) r n e = by_test (λ k. home_in hs r n k) (nat_eq h.register r) e where
  by_test : (slot_of hs r ≡ Some n → Contains (map (λ (g : SlotAssignment). g.slot) hs) n) → (z : Bool) → cond z (Some h.slot) (slot_of hs r) ≡ Some n →
      Contains (map (λ (g : SlotAssignment). g.slot) (h ∷ hs)) n
  by_test later true e = let same : h.slot ≡ n = cc in (0, omega arith, same)
  by_test later false e = let w = later e in (suc w.0, (let lt = w.1 in omega (arith, lt)), w.2)

abbrev NoFresh : ℕ → Type 0
NoFresh n = ⊥

module _ (s : Spilling) (entry : List SlotAssignment) (f : Function) (resolve : OperandPair → Option OperandPair) (sound : IsSound f)
    (may : MaySpill s entry f resolve) where
  abbrev homes : AreHomes s f.slots
  homes = may.homes

  abbrev now : List ℕ
  now = slots_now s f

  renames : (i : Instruction) → row_of (spilled_code s i) ≡ renamed_row (use_now s (first_used s.homes i.operands)) (def_now s) (row_of i)
  renames i = row_renamed (use_now s (first_used s.homes i.operands)) (def_now s) (keeps_zero s f.slots homes (first_used s.homes i.operands)) i

  home_slot_in : (r n : ℕ) → slot_of s.homes r ≡ Some n → Contains now n
  home_slot_in r n e = Contains-append_right f.slots (map (λ (h : SlotAssignment). h.slot) s.homes) n (home_in s.homes r n e)

  -- ---- what is added

  load_extra : (p : Pos) (r n : ℕ) → IsExtra NoFresh (added p (load r n))
  load_extra p r n = record { exit = refl; code = refl; fresh = λ k e. (let bad : ◌≡◌ {A = Option ℕ} None (Some k) = e in cc) }

  store_extra : (p : Pos) (r n : ℕ) → IsExtra NoFresh (added p (store r n))
  store_extra p r n = record { exit = refl; code = refl; fresh = λ k e. (let bad : ◌≡◌ {A = Option ℕ} None (Some k) = e in cc) }

  no_extra : All (IsExtra NoFresh) []
  no_extra = All-nil (IsExtra NoFresh)

  loads_extra : (p : Pos) (r : ℕ) (z : Option ℕ) → All (IsExtra NoFresh) (loads p r z)
  loads_extra p r None = no_extra
  loads_extra p r (Some n) = All-cons (IsExtra NoFresh) (added p (load r n)) [] (load_extra p r n) no_extra

  two_extra : (p : Pos) (os : List Operand) (z : Option ℕ) → All (IsExtra NoFresh) (two_loads s p os z)
  two_extra p os None = no_extra
  two_extra p os (Some n) =
      All-cons (IsExtra NoFresh) (added p (load s.first n)) (loads p s.second (other_used s.homes n os)) (load_extra p s.first n)
      (loads_extra p s.second (other_used s.homes n os))

  stores_extra : (p : Pos) (r : ℕ) (z : Option ℕ) → All (IsExtra NoFresh) (stores p r z)
  stores_extra p r None = no_extra
  stores_extra p r (Some n) = All-cons (IsExtra NoFresh) (added p (store r n)) [] (store_extra p r n) no_extra

  entry_extra : (b : ℕ) (hs : List SlotAssignment) → All (IsExtra NoFresh) (entry_stores b hs)
  entry_extra b [] = no_extra
  entry_extra b (h ∷ hs) =
      All-cons (IsExtra NoFresh) (added (block_start b) (store h.register h.slot)) (entry_stores b hs) (store_extra (block_start b) h.register h.slot)
      (entry_extra b hs)

  -- ---- how it grows

  uses_read : (i : Instruction) (o : Origin) → FitsCode s i o → (n : ℕ) → first_used s.homes i.operands ≡ Some n → (q : ℕ) × Contains (reads (row_of i)) q
  uses_read i o fits n e =
      let w = first_from s.homes (uses_in i.operands) n (sym (used_is s.homes i.operands) ∙ e) in
      let real : w.0 ≡ 0 → ⊥ = λ z. (let bad : ◌≡◌ {A = Option ℕ} None (Some n) = sym homes.no_zero ∙ ap (slot_of s.homes) (sym z) ∙ w.2 in cc) in
      (w.0, (explicit i fits.form).used_reads w.0 w.1 real)

  sets_read : (i : Instruction) (o : Origin) → FitsCode s i o → (n : ℕ) → first_defined s.homes i.operands ≡ Some n → (q : ℕ) × Contains (sets (row_of i)) q
  sets_read i o fits n e =
      let w = first_from s.homes (defs_in i.operands) n (sym (defined_is s.homes i.operands) ∙ e) in
      by_implicit (has_implicit_uses (row_of i)) refl w.0 w.1 where
        by_implicit : (z : Bool) → has_implicit_uses (row_of i) ≡ z → (r : ℕ) → Contains (defs_in i.operands) r → (q : ℕ) × Contains (sets (row_of i)) q
        by_implicit false is r k = (r, subst (λ (rs : List ℕ). Contains rs r) (sym ((explicit i fits.form).sets_defs is)) k)
        by_implicit true is r k =
            let none : Contains [] r = subst (λ (rs : List ℕ). Contains rs r) ((explicit i fits.form).implicit_none is) k in
            absurd (let lt = none.1 in omega (arith, lt))

  main_exit : (i : Instruction) → row_exit (row_of (spilled_code s i)) ≡ row_exit (row_of i)
  main_exit i = ap row_exit (renames i) ∙ exit_renamed (use_now s (first_used s.homes i.operands)) (def_now s) (row_of i)

  grown_code : (x : Item) (i : Instruction) (n : Option ℕ) (xs ys : List Item) → x.kind ≡ Code i n → FitsCode s i x.origin → Grown NoFresh xs ys →
      Grown NoFresh (x ∷ xs) (code_items s i n x.origin x.loc ++ ys)
  grown_code x i n xs ys is fits more =
      grows (two_loads s (position_of x.origin) i.operands (first_used s.homes i.operands))
      (stores (below (position_of x.origin)) s.first (first_defined s.homes i.operands))
      (two_extra (position_of x.origin) i.operands (first_used s.homes i.operands))
      (record {
        exit = main_exit i ∙ ap exit_of (sym is);
        code = ap code_number (sym is);
        number = ap number_of (sym is);
      }) (stores_extra (below (position_of x.origin)) s.first (first_defined s.homes i.operands))
      (by_used (first_used s.homes i.operands) refl) (by_defined (first_defined s.homes i.operands) refl) more
      (append_assoc (two_loads s (position_of x.origin) i.operands (first_used s.homes i.operands)) _ ys) where
        by_used : (z : Option ℕ) → first_used s.homes i.operands ≡ z →
            (two_loads s (position_of x.origin) i.operands z ≡ []) ⊎ (IsAlways (exit_of x.kind) → ⊥)
        by_used None e = inl refl
        by_used (Some m) e = inr (λ h. (let w = uses_read i x.origin fits m e in
            reads_no_jump (row_of i) w.0 w.1 (subst (λ (k : ItemKind). IsAlways (exit_of k)) is h)))

        by_defined : (z : Option ℕ) → first_defined s.homes i.operands ≡ z →
            (stores (below (position_of x.origin)) s.first z ≡ []) ⊎ (exit_of x.kind ≡ Onward)
        by_defined None e = inl refl
        by_defined (Some m) e = inr (ap exit_of is ∙ (let w = sets_read i x.origin fits m e in sets_onward (row_of i) w.0 w.1))

  alone : (x y : Item) (xs ys : List Item) → IsLike NoFresh x y → Grown NoFresh xs ys → Grown NoFresh (x ∷ xs) (y ∷ ys)
  alone x y xs ys like more = grows [] [] no_extra like no_extra (inl refl) (inl refl) more refl

  grown_kind : (x : Item) (kind : ItemKind) (xs ys : List Item) → x.kind ≡ kind → Fits s kind x.origin → Grown NoFresh xs ys →
      Grown NoFresh (x ∷ xs) (kind_items s kind x.origin x.loc ++ ys)
  grown_kind x (Code i n) xs ys is fits more = grown_code x i n xs ys is fits more
  grown_kind x (Mark v m) xs ys is fits more =
      alone x (item (Mark v m) x.origin x.loc) xs ys (record { exit = ap exit_of (sym is); code = ap code_number (sym is); number = ap number_of (sym is) })
      more
  grown_kind x (Phi p n) xs ys is fits more =
      alone x (item (Phi (spilled_place s.homes p) n) x.origin x.loc) xs ys
      (record { exit = ap exit_of (sym is); code = ap code_number (sym is); number = ap number_of (sym is) }) more

  abbrev FitsItem : Item → Type 0
  FitsItem i = Fits s i.kind i.origin

  grown_items : (xs : List Item) → All FitsItem xs → Grown NoFresh xs (spilled_items s xs)
  grown_items [] h = none
  grown_items (x ∷ xs) h =
      subst (Grown NoFresh (x ∷ xs)) (sym (flat_map-cons (spilled_item s) x xs))
      (grown_kind x x.kind xs (spilled_items s xs) refl (All-head FitsItem x xs h) (grown_items xs (All-tail FitsItem x xs h)))

  grown_others : (bs : List Block) → AllItems FitsItem bs → BlocksGrow NoFresh bs (map (spilled_block s) bs)
  grown_others [] h = no_blocks
  grown_others (b ∷ bs) h =
      next_block [] (spilled_items s b.items) refl refl no_extra (grown_items b.items (All-head (λ (b : Block). All FitsItem b.items) b bs h)) refl
      (grown_others bs (All-tail (λ (b : Block). All FitsItem b.items) b bs h))

  grown_blocks : (bs : List Block) → AllItems FitsItem bs → BlocksGrow NoFresh bs (spilled_blocks s entry bs)
  grown_blocks [] h = no_blocks
  grown_blocks (b ∷ bs) h =
      next_block (entry_stores b.id entry) (spilled_items s b.items) refl refl (entry_extra b.id entry)
      (grown_items b.items (All-head (λ (b : Block). All FitsItem b.items) b bs h)) refl
      (grown_others bs (All-tail (λ (b : Block). All FitsItem b.items) b bs h))

  -- ---- what holds of each item

  -- what it asks of code that stays and of what is added, and of debug items
  record Passes (P Q : Block → ItemKind → Origin → Type 0) : Type 0 where
    code : (b : Block) (i : Instruction) (n : Option ℕ) (o : Origin) → FitsCode s i o → OriginIn b o → P b (Code i n) o → Q b (Code (spilled_code s i) n) o
    before : (b : Block) (r q m : ℕ) (o : Origin) → (r ≡ s.first) ⊎ (r ≡ s.second) → slot_of s.homes q ≡ Some m → OriginIn b o →
        Q b (Code (load r m) None) (Before (position_of o))
    behind : (b : Block) (q m : ℕ) (p : Pos) → slot_of s.homes q ≡ Some m → OriginIn b (Kept p) → Q b (Code (store s.first m) None) (Before (below p))
    start : (b : Block) (q m : ℕ) → slot_of s.homes q ≡ Some m → Q b (Code (store q m) None) (Before (block_start b.id))
    marks : (b : Block) (v : VarId) (m : MarkValue) (o : Origin) → P b (Mark v m) o → Q b (Mark v m) o
    phis : (b : Block) (p : Option Place) (n : ℕ) (o : Origin) → P b (Phi p n) o → Q b (Phi (spilled_place s.homes p) n) o

  module _ (P Q : Block → ItemKind → Origin → Type 0) (passes : Passes P Q) where
    abbrev Was : Block → Item → Type 0
    Was b i = P b i.kind i.origin

    abbrev Is : Block → Item → Type 0
    Is b i = Q b i.kind i.origin

    one : (b : Block) (x : Item) → Is b x → All (Is b) (x ∷ [])
    one b x h = All-cons (Is b) x [] h (All-nil (Is b))

    each_code : (b : Block) (i : Instruction) (n : Option ℕ) (o : Origin) (l : Loc) → FitsCode s i o → OriginIn b o → P b (Code i n) o →
        All (Is b) (code_items s i n o l)
    each_code b i n o l fits inside was =
        All-append (Is b) (two_loads s (position_of o) i.operands (first_used s.homes i.operands)) _ (by_used (first_used s.homes i.operands) refl)
        (All-cons (Is b) (item (Code (spilled_code s i) n) o l) (stores (below (position_of o)) s.first (first_defined s.homes i.operands))
        (passes.code b i n o fits inside was) (by_defined (first_defined s.homes i.operands) refl)) where
          by_other : (m : ℕ) (z : Option ℕ) → other_used s.homes m i.operands ≡ z → All (Is b) (loads (position_of o) s.second z)
          by_other m None e = All-nil (Is b)
          by_other m (Some k) e =
              let w = other_from s.homes m (uses_in i.operands) k (sym (other_is s.homes m i.operands) ∙ e) in
              one b (added (position_of o) (load s.second k)) (passes.before b s.second w.0 k o (inr refl) w.2 inside)

          by_used : (z : Option ℕ) → first_used s.homes i.operands ≡ z → All (Is b) (two_loads s (position_of o) i.operands z)
          by_used None e = All-nil (Is b)
          by_used (Some m) e =
              let w = first_from s.homes (uses_in i.operands) m (sym (used_is s.homes i.operands) ∙ e) in
              All-cons (Is b) (added (position_of o) (load s.first m)) (loads (position_of o) s.second (other_used s.homes m i.operands))
              (passes.before b s.first w.0 m o (inl refl) w.2 inside) (by_other m (other_used s.homes m i.operands) refl)

          by_defined : (z : Option ℕ) → first_defined s.homes i.operands ≡ z → All (Is b) (stores (below (position_of o)) s.first z)
          by_defined None e = All-nil (Is b)
          by_defined (Some m) e =
              let w = first_from s.homes (defs_in i.operands) m (sym (defined_is s.homes i.operands) ∙ e) in
              let k = kept_def s f.slots homes i o fits m e in
              let here = passes.behind b w.0 m k.0 w.2 (subst (OriginIn b) k.1 inside) in
              one b (added (below (position_of o)) (store s.first m))
              (subst (λ (z : Origin). Q b (Code (store s.first m) None) (Before (below (position_of z)))) (sym k.1) here)

    each_kind : (b : Block) (kind : ItemKind) (o : Origin) (l : Loc) → Fits s kind o → OriginIn b o → P b kind o → All (Is b) (kind_items s kind o l)
    each_kind b (Code i n) o l fits inside was = each_code b i n o l fits inside was
    each_kind b (Mark v m) o l fits inside was = one b (item (Mark v m) o l) (passes.marks b v m o was)
    each_kind b (Phi p n) o l fits inside was = one b (item (Phi (spilled_place s.homes p) n) o l) (passes.phis b p n o was)

    each_item : (b : Block) (xs : List Item) → All FitsItem xs → All (λ i. OriginIn b i.origin) xs → All (Was b) xs → All (Is b) (spilled_items s xs)
    each_item b [] fits inside was = All-nil (Is b)
    each_item b (x ∷ xs) fits inside was =
        subst (All (Is b)) (sym (flat_map-cons (spilled_item s) x xs))
        (All-append (Is b) (spilled_item s x) (spilled_items s xs)
        (each_kind b x.kind x.origin x.loc (All-head FitsItem x xs fits) (All-head (λ i. OriginIn b i.origin) x xs inside) (All-head (Was b) x xs was))
        (each_item b xs (All-tail FitsItem x xs fits) (All-tail (λ i. OriginIn b i.origin) x xs inside) (All-tail (Was b) x xs was)))

    each_entry : (b : Block) (hs : List SlotAssignment) → ((h : SlotAssignment) → Contains hs h → slot_of s.homes h.register ≡ Some h.slot) →
        All (Is b) (entry_stores b.id hs)
    each_entry b [] stored = All-nil (Is b)
    each_entry b (h ∷ hs) stored =
        All-cons (Is b) (added (block_start b.id) (store h.register h.slot)) (entry_stores b.id hs)
        (passes.start b h.register h.slot (stored h (0, omega arith, refl)))
        (each_entry b hs (λ g k. stored g (suc k.0, (let lt = k.1 in omega (arith, lt)), k.2)))

  -- of blocks that differ in their items alone
  abbrev IsSteady : (Block → ItemKind → Origin → Type 0) → Type 0
  IsSteady Q = (b : Block) (ys : List Item) (kind : ItemKind) (o : Origin) → Q b kind o → Q (record { id = b.id; items = ys; source_end = b.source_end }) kind o

  all_weaker : (A B : Item → Type 0) → ((x : Item) → A x → B x) → (xs : List Item) → All A xs → All B xs
  all_weaker A B g [] h = All-nil B
  all_weaker A B g (x ∷ xs) h = All-cons B x xs (g x (All-head A x xs h)) (all_weaker A B g xs (All-tail A x xs h))

  module _ (P Q : Block → ItemKind → Origin → Type 0) (passes : Passes P Q) (steady : IsSteady Q) where
    abbrev Now : Block → Type 0
    Now b = All (λ i. Q b i.kind i.origin) b.items

    moved : (b : Block) (ys : List Item) → All (λ i. Q b i.kind i.origin) ys → Now (record { id = b.id; items = ys; source_end = b.source_end })
    moved b ys h = all_weaker (λ i. Q b i.kind i.origin) (λ i. Q (record { id = b.id; items = ys; source_end = b.source_end }) i.kind i.origin)
        (λ x k. steady b ys x.kind x.origin k) ys h

    each_other : (bs : List Block) → AllItems FitsItem bs → All (λ (b : Block). All (λ (i : Item). OriginIn b i.origin) b.items) bs →
        All (λ (b : Block). All (λ (i : Item). P b i.kind i.origin) b.items) bs → All Now (map (spilled_block s) bs)
    each_other [] fits inside was = All-nil Now
    each_other (b ∷ bs) fits inside was =
        All-cons Now (spilled_block s b) (map (spilled_block s) bs)
        (moved b (spilled_items s b.items) (each_item P Q passes b b.items (All-head (λ (b : Block). All FitsItem b.items) b bs fits)
        (All-head (λ (b : Block). All (λ (i : Item). OriginIn b i.origin) b.items) b bs inside)
        (All-head (λ (b : Block). All (λ (i : Item). P b i.kind i.origin) b.items) b bs was)))
        (each_other bs (All-tail (λ (b : Block). All FitsItem b.items) b bs fits)
        (All-tail (λ (b : Block). All (λ (i : Item). OriginIn b i.origin) b.items) b bs inside)
        (All-tail (λ (b : Block). All (λ (i : Item). P b i.kind i.origin) b.items) b bs was))

    each_block : (bs : List Block) → AllItems FitsItem bs → All (λ (b : Block). All (λ (i : Item). OriginIn b i.origin) b.items) bs →
        All (λ (b : Block). All (λ (i : Item). P b i.kind i.origin) b.items) bs → All Now (spilled_blocks s entry bs)
    each_block [] fits inside was = All-nil Now
    each_block (b ∷ bs) fits inside was =
        All-cons Now (first_block s entry b) (map (spilled_block s) bs)
        (moved b (entry_stores b.id entry ++ spilled_items s b.items)
        (All-append (λ i. Q b i.kind i.origin) (entry_stores b.id entry) (spilled_items s b.items) (each_entry P Q passes b entry may.stored)
        (each_item P Q passes b b.items (All-head (λ (b : Block). All FitsItem b.items) b bs fits)
        (All-head (λ (b : Block). All (λ (i : Item). OriginIn b i.origin) b.items) b bs inside)
        (All-head (λ (b : Block). All (λ (i : Item). P b i.kind i.origin) b.items) b bs was))))
        (each_other bs (All-tail (λ (b : Block). All FitsItem b.items) b bs fits)
        (All-tail (λ (b : Block). All (λ (i : Item). OriginIn b i.origin) b.items) b bs inside)
        (All-tail (λ (b : Block). All (λ (i : Item). P b i.kind i.origin) b.items) b bs was))

  -- ---- the fields

  targets_pass : (ids : List ℕ) → Passes (λ b kind o. TargetsIn ids kind) (λ b kind o. TargetsIn ids kind)
  targets_pass ids = record {
    code = λ b i n o fits inside h. subst (TargetIn ids) (sym (renames i))
        (target_renamed (use_now s (first_used s.homes i.operands)) (def_now s) ids (row_of i) h);
    before = λ b r q m o which is inside. tt;
    behind = λ b q m p is inside. tt;
    start = λ b q m is. tt;
    marks = λ b v m o h. tt;
    phis = λ b p n o h. tt;
  }

  place_now : (p : Option Place) → PlaceIn f.slots p → PlaceIn now (spilled_place s.homes p)
  place_now None h = tt
  place_now (Some (Slot n)) h = Contains-append_left f.slots (map (λ (g : SlotAssignment). g.slot) s.homes) n h
  place_now (Some (Const z)) h = tt
  place_now (Some (Register r)) h = by_home (slot_of s.homes r) refl where
    by_home : (z : Option ℕ) → slot_of s.homes r ≡ z → PlaceIn now (Some (place_in r z))
    by_home None e = tt
    by_home (Some n) e = home_slot_in r n e

  -- what holds of the operands of an added load or store
  three_all : (P : Operand → Type 0) (a : Operand) (m : ℕ) → P a → P (OfSlot m) → P (Imm (pos 0)) → All P (a ∷ OfSlot m ∷ Imm (pos 0) ∷ [])
  three_all P a m h slot number =
      All-cons P a (OfSlot m ∷ Imm (pos 0) ∷ []) h (All-cons P (OfSlot m) (Imm (pos 0) ∷ []) slot (All-cons P (Imm (pos 0)) [] number (All-nil P)))

  passed_now : (u d : ℕ → ℕ) (a : Operand) → PassedIn f.slots a → PassedIn now (renamed_operand u d a)
  passed_now u d (Outgoing n) h = Contains-append_left f.slots (map (λ (g : SlotAssignment). g.slot) s.homes) n h
  passed_now u d _ h = tt

  slots_pass : Passes (λ b kind o. SlotsIn f.slots kind) (λ b kind o. SlotsIn now kind)
  slots_pass = record {
    code = λ b i n o fits inside h. (
      subst (SlotIn now) (sym (renames i))
          (slot_renamed (use_now s (first_used s.homes i.operands)) (def_now s) now (row_of i)
          (slot_more f.slots (map (λ (g : SlotAssignment). g.slot) s.homes) (row_of i) h.0)),
      All-map (PassedIn now) (renamed_operand (use_now s (first_used s.homes i.operands)) (def_now s)) i.operands
          (All-weaker (PassedIn f.slots) (λ a. PassedIn now (renamed_operand (use_now s (first_used s.homes i.operands)) (def_now s) a))
          (passed_now (use_now s (first_used s.homes i.operands)) (def_now s)) i.operands h.1),
    );
    before = λ b r q m o which is inside. (home_slot_in q m is, three_all (PassedIn now) (Def r) m tt tt tt);
    behind = λ b q m p is inside. (home_slot_in q m is, three_all (PassedIn now) (Use s.first) m tt tt tt);
    start = λ b q m is. (home_slot_in q m is, three_all (PassedIn now) (Use q) m tt tt tt);
    marks = λ b v m o h. tt;
    phis = λ b p n o h. place_now p h;
  }

  first_pass : Passes (λ b kind o. KindPassesFirst f.slots kind) (λ b kind o. KindPassesFirst now kind)
  first_pass = record {
    code = λ b i n o fits inside h. subst (PassesFirst now) (sym (renames i))
        (first_renamed (use_now s (first_used s.homes i.operands)) (def_now s) now (row_of i)
        (passes_longer f.slots (map (λ (g : SlotAssignment). g.slot) s.homes) (row_of i) h));
    before = λ b r q m o which is inside. tt;
    behind = λ b q m p is inside. tt;
    start = λ b q m is. tt;
    marks = λ b v m o h. tt;
    phis = λ b p n o h. tt;
  }

  objects_pass : Passes (λ b kind o. ObjectsIn f.objects kind) (λ b kind o. ObjectsIn f.objects kind)
  objects_pass = record {
    code = λ b i n o fits inside h. subst (ObjectIn f.objects) (sym (renames i))
        (object_renamed (use_now s (first_used s.homes i.operands)) (def_now s) f.objects (row_of i) h);
    before = λ b r q m o which is inside. tt;
    behind = λ b q m p is inside. tt;
    start = λ b q m is. tt;
    marks = λ b v m o h. tt;
    phis = λ b p n o h. tt;
  }

  -- no scratch register is x2
  first_real : s.first ≡ 2 → ⊥
  first_real e = no_pointer_saved (subst (Contains caller_saved) e homes.first)

  second_real : s.second ≡ 2 → ⊥
  second_real e = no_pointer_saved (subst (Contains caller_saved) e homes.second)

  use_real : (u : Option ℕ) (r : ℕ) → (r ≡ 2 → ⊥) → use_now s u r ≡ 2 → ⊥
  use_real u r real = by_home (slot_of s.homes r) where
    by_test : (z : Bool) → cond z s.first s.second ≡ 2 → ⊥
    by_test true e = first_real e
    by_test false e = second_real e

    by_home : (z : Option ℕ) → stand_in s u r z ≡ 2 → ⊥
    by_home None e = real e
    by_home (Some n) e = by_test (names_slot u n) e

  def_real : (r : ℕ) → (r ≡ 2 → ⊥) → def_now s r ≡ 2 → ⊥
  def_real r real = by_home (slot_of s.homes r) where
    by_home : (z : Option ℕ) → set_in s r z ≡ 2 → ⊥
    by_home None e = real e
    by_home (Some n) e = first_real e

  operand_real : (u : Option ℕ) (o : Operand) → IsNotPointer o → IsNotPointer (renamed_operand (use_now s u) (def_now s) o)
  operand_real u (Use r) h = use_real u r h
  operand_real u (Def r) h = def_real r h
  operand_real u _ h = tt

  operands_real : (u : Option ℕ) (os : List Operand) → All IsNotPointer os → All IsNotPointer (map (renamed_operand (use_now s u) (def_now s)) os)
  operands_real u [] h = All-nil IsNotPointer
  operands_real u (o ∷ os) h =
      All-cons IsNotPointer (renamed_operand (use_now s u) (def_now s) o) (map (renamed_operand (use_now s u) (def_now s)) os)
      (operand_real u o (All-head IsNotPointer o os h)) (operands_real u os (All-tail IsNotPointer o os h))

  three_real : (a : Operand) (m : ℕ) → IsNotPointer a → All IsNotPointer (a ∷ OfSlot m ∷ Imm (pos 0) ∷ [])
  three_real a m h = three_all IsNotPointer a m h tt tt

  scratch_real : (r : ℕ) → (r ≡ s.first) ⊎ (r ≡ s.second) → r ≡ 2 → ⊥
  scratch_real r (inl e) z = first_real (sym e ∙ z)
  scratch_real r (inr e) z = second_real (sym e ∙ z)

  home_real : (q m : ℕ) → slot_of s.homes q ≡ Some m → q ≡ 2 → ⊥
  home_real q m is e = let bad : ◌≡◌ {A = Option ℕ} None (Some m) = sym homes.no_pointer ∙ ap (slot_of s.homes) (sym e) ∙ is in cc

  pointer_pass : Passes (λ b kind o. LeavesPointer kind) (λ b kind o. LeavesPointer kind)
  pointer_pass = record {
    code = λ b i n o fits inside h. operands_real (first_used s.homes i.operands) i.operands h;
    before = λ b r q m o which is inside. three_real (Def r) m (scratch_real r which);
    behind = λ b q m p is inside. three_real (Use s.first) m first_real;
    start = λ b q m is. three_real (Use q) m (home_real q m is);
    marks = λ b v m o h. tt;
    phis = λ b p n o h. tt;
  }

  before_in : (b : Block) (o : Origin) → OriginIn b o → OriginIn b (Before (position_of o))
  before_in b (Kept p) (home, lt) = (home, omega (arith, lt))
  before_in b (Before p) h = h

  origins_pass : Passes (λ b kind o. OriginIn b o) (λ b kind o. OriginIn b o)
  origins_pass = record {
    code = λ b i n o fits inside h. inside;
    before = λ b r q m o which is inside. before_in b o inside;
    behind = λ b q m p is inside. (inside.0, (let lt = inside.1 in omega (arith, lt)));
    start = λ b q m is. (refl, omega arith);
    marks = λ b v m o h. h;
    phis = λ b p n o h. h;
  }

  origin_steady : IsSteady (λ b kind o. OriginIn b o)
  origin_steady b ys kind (Kept p) h = h
  origin_steady b ys kind (Before p) h = h

  sound_spilled : AreApart now → length now + length f.objects ≤ MAX_SLOTS → IsSound (record f { slots = now; blocks = spilled_blocks s entry f.blocks })
  sound_spilled apart few =
      sound_grown NoFresh f (record f { slots = now; blocks = spilled_blocks s entry f.blocks }) sound (grown_blocks f.blocks may.fits) (record {
        slots_apart = apart;
        few_slots = few;
        objects_same = refl;
        targets = each_block (λ b kind o. TargetsIn (ids_of f.blocks) kind) (λ b kind o. TargetsIn (ids_of f.blocks) kind) (targets_pass (ids_of f.blocks))
            (λ b ys kind o h. h) f.blocks may.fits sound.origins sound.targets;
        slots = each_block (λ b kind o. SlotsIn f.slots kind) (λ b kind o. SlotsIn now kind) slots_pass (λ b ys kind o h. h) f.blocks may.fits sound.origins
            sound.slots;
        passed = each_block (λ b kind o. KindPassesFirst f.slots kind) (λ b kind o. KindPassesFirst now kind) first_pass (λ b ys kind o h. h) f.blocks
            may.fits sound.origins sound.passed;
        objects = each_block (λ b kind o. ObjectsIn f.objects kind) (λ b kind o. ObjectsIn f.objects kind) objects_pass (λ b ys kind o h. h) f.blocks may.fits
            sound.origins sound.objects;
        pointer = each_block (λ b kind o. LeavesPointer kind) (λ b kind o. LeavesPointer kind) pointer_pass (λ b ys kind o h. h) f.blocks may.fits
            sound.origins sound.pointer;
        origins = each_block (λ b kind o. OriginIn b o) (λ b kind o. OriginIn b o) origins_pass origin_steady f.blocks may.fits sound.origins sound.origins;
        fresh = λ k fresh code. fresh;
      })

pub spilled_is_sound : SpilledIsSound
spilled_is_sound s entry f resolve sound may apart few = sound_spilled s entry f resolve sound may apart few
