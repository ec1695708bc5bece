-- A sound function of physical registers has a frame as every function with its frame has one.
use Rattle.std.proofs.Common.{◌≡◌, ℕ, zero, suc, ◌<◌, ℤ, pos, ◌-ℤ◌, List, [], ◌∷◌, ◌++◌, map, All, Contains}
use Rattle.std.proofs.Common.{Option, Some, None, Bool, true, false, cond, refl, sym, ap, ◌∙◌, subst, arith}
use Rattle.std.proofs.lemmas.List.Concat.{flat_map-cons}
use Rattle.std.proofs.lemmas.List.Elements.{All-nil, All-cons, All-head, All-tail, All-append, All-map, All-weaker}
use Rattle.rv64_instr.specs.declared.operand.Operand.{Operand}
use Rattle.rv64_instr.specs.declared.operand.Operand.TheVariants.{Def, Use, ImplicitDef, ImplicitUse, Imm, Slot, Outgoing}
use Rattle.rv64_instr.specs.declared.place.Place.{Place}
use Rattle.rv64_instr.specs.declared.place.Place.TheVariants.{Register, Slot as InSlot, Const}
use Rattle.rv64_instr.specs.Arithmetic.{word}
use Rattle.rv64_instr.specs.Row.{Row, LoadsSlot, StoresSlot, Calls, row_of}
use Rattle.rv64_instr.specs.Row.{add_row}
use Rattle.rv64_instr.specs.View.{access_of}
use Rattle.mir_func.specs.declared.block.Block.{Block}
use Rattle.mir_func.specs.declared.exit.Exit.TheVariants.{Onward}
use Rattle.mir_func.specs.declared.framed.SavedRegister.{SavedRegister}
use Rattle.mir_func.specs.declared.item.Item.{Item}
use Rattle.mir_func.specs.declared.item.ItemKind.{ItemKind}
use Rattle.mir_func.specs.declared.item.ItemKind.TheVariants.{Code, Mark, Phi}
use Rattle.mir_func.specs.declared.object.Object.{Object as StackObject}
use Rattle.mir_func.specs.declared.position.Origin.{Origin}
use Rattle.mir_func.specs.declared.position.Origin.TheVariants.{Before}
use Rattle.mir_func.specs.Exits.{row_exit, exit_of, row_leads_back, leads_back}
use Rattle.mir_func.specs.Function.{Function, FramedFunction}
use Rattle.mir_func.specs.Graph.{block_start}
use Rattle.mir_func.specs.Sound.{AreApart, PassesFirst, KindPassesFirst}
use Rattle.mir_func.specs.Sound.{AllItems, TargetIn, TargetsIn, SlotIn, PassedIn, SlotsIn, PlaceIn, ObjectIn, ObjectsIn, IsNotPointer}
use Rattle.mir_func.specs.SoundFrame.{IsPhysical, PlaceIsPhysical, HasPhysical, slot_offsets, adds_to_pointer, saves, restores, prologue_code}
use Rattle.mir_func.specs.SoundFrame.{epilogue_code, AccessReaches, KindReaches}
use Rattle.mir_func.specs.Positions.{position_of}
use Rattle.frame_rule.specs.Rule.{saved_of, size_of, added, added_all, epilogue, renamed_operand}
use Rattle.frame_rule.specs.Rule.{renamed_place, renamed_kind, renamed, framed_item, framed_items, framed_block, prologue_block, framed_blocks}
use Rattle.frame_rule.specs.Rule.{framed_of}
use Rattle.frame_rule.proofs.Rows.{renamed_row, row_renamed}
use Rattle.frame_rule.proofs.Saved.{saved_given}
use Rattle.frame_rule.proofs.Offsets.{slot_has_offset, saved_has_offset, first_offsets}

-- ---- rows whose slots have other names

exit_same : (slots : List ℕ) (r : Row) → row_exit (renamed_row slots r) ≡ row_exit r
exit_same slots (LoadsSlot rd n) = refl
exit_same slots _ = refl

pub kind_exit : (slots : List ℕ) (k : ItemKind) → exit_of (renamed_kind slots k) ≡ exit_of k
kind_exit slots (Code i n) = ap row_exit (row_renamed slots i) ∙ exit_same slots (row_of i)
kind_exit slots (Mark v m) = refl
kind_exit slots (Phi p n) = refl

leads_same : (slots : List ℕ) (r : Row) → row_leads_back (renamed_row slots r) ≡ row_leads_back r
leads_same slots (LoadsSlot rd n) = refl
leads_same slots _ = refl

pub kind_leads : (slots : List ℕ) (k : ItemKind) → leads_back (renamed_kind slots k) ≡ leads_back k
kind_leads slots (Code i n) = ap row_leads_back (row_renamed slots i) ∙ leads_same slots (row_of i)
kind_leads slots (Mark v m) = refl
kind_leads slots (Phi p n) = refl

target_same : (slots ids : List ℕ) (r : Row) → TargetIn ids (renamed_row slots r) ≡ TargetIn ids r
target_same slots ids (LoadsSlot rd n) = refl
target_same slots ids _ = refl

object_same : (slots : List ℕ) (objects : List StackObject) (r : Row) → ObjectIn objects (renamed_row slots r) ≡ ObjectIn objects r
object_same slots objects (LoadsSlot rd n) = refl
object_same slots objects _ = refl

reach_same : (slots : List ℕ) (own : ℕ) (objects : List StackObject) (r : Row) →
    AccessReaches own objects (access_of (renamed_row slots r)) ≡ AccessReaches own objects (access_of r)
reach_same slots own objects (LoadsSlot rd n) = refl
reach_same slots own objects _ = refl

slot_in : (f : Function) (r : Row) → SlotIn f.slots r → SlotIn (slot_offsets (framed_of f)) (renamed_row f.slots r)
slot_in f (LoadsSlot rd n) h = slot_has_offset f n h
slot_in f (StoresSlot rs n) h = slot_has_offset f n h
slot_in f _ h = h

passed_in : (f : Function) (o : Operand) → PassedIn f.slots o → PassedIn (slot_offsets (framed_of f)) (renamed_operand f.slots o)
passed_in f (Outgoing n) h = slot_has_offset f n h
passed_in f (Slot n) h = tt
passed_in f _ h = h

first_renamed : (f : Function) → AreApart f.slots → (r : Row) → PassesFirst f.slots r →
    PassesFirst (map (λ s. s.offset) (framed_of f).offsets) (renamed_row f.slots r)
first_renamed f apart (Calls call) h = first_offsets f.slots call.outgoing apart h
first_renamed f apart _ h = tt

adds_first : (offsets : List ℕ) (n : ℕ) → PassesFirst offsets (add_row 2 2 n)
adds_first offsets zero = tt
adds_first offsets (suc n) = tt

none_passed : (offsets : List ℕ) (a b : Operand) (z : ℤ) → PassedIn offsets a → PassedIn offsets b → All (PassedIn offsets) (a ∷ b ∷ Imm z ∷ [])
none_passed offsets a b z x y =
    let P = PassedIn offsets in All-cons P a (b ∷ Imm z ∷ []) x (All-cons P b (Imm z ∷ []) y (All-cons P (Imm z) [] tt (All-nil P)))

adds_slot : (offsets : List ℕ) (n : ℕ) → SlotIn offsets (add_row 2 2 n)
adds_slot offsets zero = tt
adds_slot offsets (suc n) = tt

adds_object : (objects : List StackObject) (n : ℕ) → ObjectIn objects (add_row 2 2 n)
adds_object objects zero = tt
adds_object objects (suc n) = tt

adds_reach : (own : ℕ) (objects : List StackObject) (n : ℕ) → AccessReaches own objects (access_of (add_row 2 2 n))
adds_reach own objects zero = tt
adds_reach own objects (suc n) = tt

adds_target : (ids : List ℕ) (n : ℕ) → TargetIn ids (add_row 2 2 n)
adds_target ids zero = tt
adds_target ids (suc n) = tt

pub adds_exit : (n : ℕ) → row_exit (add_row 2 2 n) ≡ Onward
adds_exit zero = refl
adds_exit (suc n) = refl

operand_physical : (slots : List ℕ) (x : Operand) → IsPhysical x → IsPhysical (renamed_operand slots x)
operand_physical slots (Def r) h = h
operand_physical slots (Use r) h = h
operand_physical slots (ImplicitDef r) h = h
operand_physical slots (ImplicitUse r) h = h
operand_physical slots _ h = tt

pub operand_apart : (slots : List ℕ) (x : Operand) → IsNotPointer x → IsNotPointer (renamed_operand slots x)
operand_apart slots (Def r) h = h
operand_apart slots (Use r) h = h
operand_apart slots _ h = tt

pub mapped : (P : Operand → Type 0) (g : Operand → Operand) → ((x : Operand) → P x → P (g x)) → (os : List Operand) → All P os → All P (map g os)
mapped P g step [] h = All-nil P
mapped P g step (x ∷ os) h = All-cons P (g x) (map g os) (step x (All-head P x os h)) (mapped P g step os (All-tail P x os h))

-- ---- what holds of each item

module _ (f : Function) where
  abbrev slots : List ℕ
  slots = f.slots

  abbrev F : FramedFunction
  F = framed_of f

  abbrev saved : List SavedRegister
  saved = saved_of f

  abbrev size : ℕ
  size = size_of f

  -- the offsets of its slots
  abbrev offsets : List ℕ
  offsets = map (λ s. s.offset) F.offsets

  -- a fact of code that is added
  record OfAdded (P : ItemKind → Type 0) : Type 0 where
    lowers : P (Code (adds_to_pointer (pos 0 -ℤ pos size)) None)
    raises : P (Code (adds_to_pointer (pos size)) None)
    saving : (s : SavedRegister) → Contains saved s → P (Code (saves s) None)
    loading : (s : SavedRegister) → Contains saved s → P (Code (restores s) None)

  module _ (P : ItemKind → Type 0) (of : OfAdded P) where
    abbrev Q : Item → Type 0
    Q i = P i.kind

    saves_all : (o : Origin) (ss : List SavedRegister) → ((s : SavedRegister) → Contains ss s → Contains saved s) → All Q (map (added o) (map saves ss))
    saves_all o [] h = All-nil Q
    saves_all o (s ∷ ss) h =
        All-cons Q (added o (saves s)) _ (of.saving s (h s (0, omega arith, refl))) (saves_all o ss (λ q k. h q (
          suc k.0,
          (let l = k.1 in
              omega (arith, l)),
          k.2,
        )))

    loads_all : (o : Origin) (ss : List SavedRegister) → ((s : SavedRegister) → Contains ss s → Contains saved s) →
        All Q (map (added o) (map restores ss ++ adds_to_pointer (pos size) ∷ []))
    loads_all o [] h = All-cons Q (added o (adds_to_pointer (pos size))) [] of.raises (All-nil Q)
    loads_all o (s ∷ ss) h =
        All-cons Q (added o (restores s)) _ (of.loading s (h s (0, omega arith, refl))) (loads_all o ss (λ q k. h q (
          suc k.0,
          (let l = k.1 in
              omega (arith, l)),
          k.2,
        )))

    prologue_all : (n : ℕ) (o : Origin) → All Q (added_all n o (prologue_code size saved))
    prologue_all zero o = All-nil Q
    prologue_all (suc n) o = All-cons Q (added o (adds_to_pointer (pos 0 -ℤ pos size))) _ of.lowers (saves_all o saved (λ s k. k))

    epilogue_all : (n : ℕ) (o : Origin) → All Q (added_all n o (epilogue_code size saved))
    epilogue_all zero o = All-nil Q
    epilogue_all (suc n) o = loads_all o saved (λ s k. k)

    items_all : (R : Item → Type 0) → ((i : Item) → R i → Q (renamed slots i)) → (xs : List Item) → All R xs → All Q (framed_items f xs)
    items_all R step [] h = All-nil Q
    items_all R step (x ∷ xs) h =
        subst (All Q) (sym (flat_map-cons (framed_item f) x xs))
        (All-append Q (framed_item f x) (framed_items f xs)
        (All-append Q (cond (leads_back x.kind) (epilogue f x.origin) []) (renamed slots x ∷ []) (by_exit (leads_back x.kind))
        (All-cons Q (renamed slots x) [] (step x (All-head R x xs h)) (All-nil Q))) (items_all R step xs (All-tail R x xs h))) where
          by_exit : (z : Bool) → All Q (cond z (epilogue f x.origin) [])
          by_exit true = epilogue_all size (Before (position_of x.origin))
          by_exit false = All-nil Q

    body_all : (R : Item → Type 0) → ((i : Item) → R i → Q (renamed slots i)) → (bs : List Block) → AllItems R bs → AllItems Q (map (framed_block f) bs)
    body_all R step [] h = All-nil (λ (b : Block). All Q b.items)
    body_all R step (b ∷ bs) h =
        All-cons (λ (b : Block). All Q b.items) (framed_block f b) (map (framed_block f) bs)
        (items_all R step b.items (All-head (λ (b : Block). All R b.items) b bs h)) (body_all R step bs (All-tail (λ (b : Block). All R b.items) b bs h))

    blocks_all : (R : Item → Type 0) → ((i : Item) → R i → Q (renamed slots i)) → (bs : List Block) → AllItems R bs → AllItems Q (framed_blocks f bs)
    blocks_all R step [] h = All-nil (λ (b : Block). All Q b.items)
    blocks_all R step (b ∷ bs) h =
        All-cons (λ (b : Block). All Q b.items) (prologue_block f b) (map (framed_block f) (b ∷ bs)) (prologue_all size (Before (block_start b.id)))
        (body_all R step (b ∷ bs) h)

  two : 2 < 32
  two = omega arith

  low : (s : SavedRegister) → Contains saved s → s.register < 32
  low s k = (saved_given f s k).0

  -- ---- the parts of being framed

  pub slots_hold : (bs : List Block) → AllItems (λ i. SlotsIn f.slots i.kind) bs →
      AllItems (λ i. SlotsIn (slot_offsets F) i.kind) (framed_blocks f bs)
  slots_hold bs h =
      blocks_all (SlotsIn (slot_offsets F)) (record {
        lowers = (adds_slot (slot_offsets F) (word (pos 0 -ℤ pos size)), none_passed (slot_offsets F) (Def 2) (Use 2) (pos 0 -ℤ pos size) tt tt);
        raises = (adds_slot (slot_offsets F) (word (pos size)), none_passed (slot_offsets F) (Def 2) (Use 2) (pos size) tt tt);
        saving = λ s k. (saved_has_offset f s k, none_passed (slot_offsets F) (Use s.register) (Slot s.offset) (pos 0) tt tt);
        loading = λ s k. (saved_has_offset f s k, none_passed (slot_offsets F) (Def s.register) (Slot s.offset) (pos 0) tt tt);
      }) (λ i. SlotsIn f.slots i.kind) (λ i k. by_kind i.kind k) bs h where
        by_place : (p : Option Place) → PlaceIn f.slots p → PlaceIn (slot_offsets F) (renamed_place slots p)
        by_place None k = tt
        by_place (Some (InSlot n)) k = slot_has_offset f n k
        by_place (Some (Register r)) k = tt
        by_place (Some (Const c)) k = tt

        by_kind : (k : ItemKind) → SlotsIn f.slots k → SlotsIn (slot_offsets F) (renamed_kind slots k)
        by_kind (Code i n) k = (
          subst (SlotIn (slot_offsets F)) (sym (row_renamed slots i)) (slot_in f (row_of i) k.0),
          All-map (PassedIn (slot_offsets F)) (renamed_operand slots) i.operands
              (All-weaker (PassedIn slots) (λ (o : Operand). PassedIn (slot_offsets F) (renamed_operand slots o)) (passed_in f) i.operands k.1),
        )
        by_kind (Mark v m) k = tt
        by_kind (Phi p n) k = by_place p k

  pub passed_hold : AreApart f.slots → (bs : List Block) → AllItems (λ i. KindPassesFirst f.slots i.kind) bs →
      AllItems (λ i. KindPassesFirst offsets i.kind) (framed_blocks f bs)
  passed_hold apart bs h =
      blocks_all (KindPassesFirst offsets) (record {
        lowers = adds_first offsets (word (pos 0 -ℤ pos size));
        raises = adds_first offsets (word (pos size));
        saving = λ s k. tt;
        loading = λ s k. tt;
      }) (λ i. KindPassesFirst f.slots i.kind) (λ i k. by_kind i.kind k) bs h where
        by_kind : (k : ItemKind) → KindPassesFirst f.slots k → KindPassesFirst offsets (renamed_kind slots k)
        by_kind (Code i n) k = subst (PassesFirst offsets) (sym (row_renamed slots i)) (first_renamed f apart (row_of i) k)
        by_kind (Mark v m) k = tt
        by_kind (Phi p n) k = tt

  pub objects_hold : (bs : List Block) → AllItems (λ i. ObjectsIn f.objects i.kind) bs → AllItems (λ i. ObjectsIn f.objects i.kind) (framed_blocks f bs)
  objects_hold bs h =
      blocks_all (ObjectsIn f.objects) (record {
        lowers = adds_object f.objects (word (pos 0 -ℤ pos size));
        raises = adds_object f.objects (word (pos size));
        saving = λ s k. tt;
        loading = λ s k. tt;
      }) (λ i. ObjectsIn f.objects i.kind) (λ i k. by_kind i.kind k) bs h where
        by_row : (x y : Row) → x ≡ renamed_row slots y → ObjectIn f.objects y → ObjectIn f.objects x
        by_row x y e k = subst (ObjectIn f.objects) (sym e) (subst (λ (T : Type 0). T) (sym (object_same slots f.objects y)) k)

        by_kind : (k : ItemKind) → ObjectsIn f.objects k → ObjectsIn f.objects (renamed_kind slots k)
        by_kind (Code i n) k = by_row _ (row_of i) (row_renamed slots i) k
        by_kind (Mark v m) k = tt
        by_kind (Phi p n) k = tt

  pub addresses_hold : (own : ℕ) (bs : List Block) → AllItems (λ i. KindReaches own f.objects i.kind) bs →
      AllItems (λ i. KindReaches own f.objects i.kind) (framed_blocks f bs)
  addresses_hold own bs h =
      blocks_all (KindReaches own f.objects) (record {
        lowers = adds_reach own f.objects (word (pos 0 -ℤ pos size));
        raises = adds_reach own f.objects (word (pos size));
        saving = λ s k. tt;
        loading = λ s k. tt;
      }) (λ i. KindReaches own f.objects i.kind) (λ i k. by_kind i.kind k) bs h where
        by_row : (x y : Row) → x ≡ renamed_row slots y → AccessReaches own f.objects (access_of y) → AccessReaches own f.objects (access_of x)
        by_row x y e k =
            subst (λ (r : Row). AccessReaches own f.objects (access_of r)) (sym e)
            (subst (λ (T : Type 0). T) (sym (reach_same slots own f.objects y)) k)

        by_kind : (k : ItemKind) → KindReaches own f.objects k → KindReaches own f.objects (renamed_kind slots k)
        by_kind (Code i n) k = by_row _ (row_of i) (row_renamed slots i) k
        by_kind (Mark v m) k = tt
        by_kind (Phi p n) k = tt

  pub targets_hold : (ids : List ℕ) (bs : List Block) → AllItems (λ i. TargetsIn ids i.kind) bs → AllItems (λ i. TargetsIn ids i.kind) (framed_blocks f bs)
  targets_hold ids bs h =
      blocks_all (TargetsIn ids) (record {
        lowers = adds_target ids (word (pos 0 -ℤ pos size));
        raises = adds_target ids (word (pos size));
        saving = λ s k. tt;
        loading = λ s k. tt;
      }) (λ i. TargetsIn ids i.kind) (λ i k. by_kind i.kind k) bs h where
        by_row : (x y : Row) → x ≡ renamed_row slots y → TargetIn ids y → TargetIn ids x
        by_row x y e k = subst (TargetIn ids) (sym e) (subst (λ (T : Type 0). T) (sym (target_same slots ids y)) k)

        by_kind : (k : ItemKind) → TargetsIn ids k → TargetsIn ids (renamed_kind slots k)
        by_kind (Code i n) k = by_row _ (row_of i) (row_renamed slots i) k
        by_kind (Mark v m) k = tt
        by_kind (Phi p n) k = tt

  pub physical_holds : (bs : List Block) → AllItems (λ i. HasPhysical i.kind) bs → AllItems (λ i. HasPhysical i.kind) (framed_blocks f bs)
  physical_holds bs h =
      blocks_all HasPhysical (record {
        lowers = pointer_code (pos 0 -ℤ pos size);
        raises = pointer_code (pos size);
        saving = λ s k. three (Use s.register) (Slot s.offset) (low s k) tt;
        loading = λ s k. three (Def s.register) (Slot s.offset) (low s k) tt;
      }) (λ i. HasPhysical i.kind) (λ i k. by_kind i.kind k) bs h where
        three : (a b : Operand) → IsPhysical a → IsPhysical b → All IsPhysical (a ∷ b ∷ Imm (pos 0) ∷ [])
        three a b x y = All-cons IsPhysical a (b ∷ Imm (pos 0) ∷ []) x (All-cons IsPhysical b (Imm (pos 0) ∷ []) y (All-cons IsPhysical (Imm (pos 0)) [] tt
            (All-nil IsPhysical)))

        pointer_code : (z : ℤ) → All IsPhysical (Def 2 ∷ Use 2 ∷ Imm z ∷ [])
        pointer_code z = All-cons IsPhysical (Def 2) (Use 2 ∷ Imm z ∷ []) two (All-cons IsPhysical (Use 2) (Imm z ∷ []) two (All-cons IsPhysical (Imm z) [] tt
            (All-nil IsPhysical)))

        by_place : (p : Option Place) → PlaceIsPhysical p → PlaceIsPhysical (renamed_place slots p)
        by_place None k = tt
        by_place (Some (InSlot n)) k = tt
        by_place (Some (Register r)) k = k
        by_place (Some (Const c)) k = tt

        by_kind : (k : ItemKind) → HasPhysical k → HasPhysical (renamed_kind slots k)
        by_kind (Code i n) k = mapped IsPhysical (renamed_operand slots) (operand_physical slots) i.operands k
        by_kind (Mark v m) k = k
        by_kind (Phi p n) k = by_place p k
