-- The items of a function with its frame are printable where those of the function are: those that were there keep their numbers but for slots,
-- which are named by small offsets, and those that were added have small ones. A function that was read has printable items.
use Rattle.std.proofs.Common.{◌≡◌, ℕ, zero, suc, ◌<◌, ◌≤◌, ◌^◌, ℤ, pos, Bool, true, false, ◌&&◌, cond, nat_eq, List, [], ◌∷◌, length, map}
use Rattle.std.proofs.Common.{Option, Some, None, refl, sym, subst, ◌∙◌, arith}
use Rattle.std.specs.Prelude.{All, ◌-ℤ◌, Contains, nat_lt}
use Rattle.std.proofs.lemmas.Bool.{and_parts, ltb-true}
use Rattle.std.specs.List.{flat_map, list_all}
use Rattle.std.proofs.lemmas.Bool.Decides.{nat_tests}
use Rattle.std.proofs.lemmas.Int.{ints}
use Rattle.std.proofs.lemmas.List.{length-append}
use Rattle.std.proofs.lemmas.List.Elements.{All-cons, All-nil, All-head, All-tail, All-append, All-contains, All-weaker}
use Rattle.rv64_instr.specs.declared.operand.Operand.{Operand}
use Rattle.rv64_instr.specs.declared.operand.Operand.TheVariants.{Def, Use, Imm, Slot, Outgoing}
use Rattle.rv64_instr.specs.declared.place.Place.{Place}
use Rattle.rv64_instr.specs.declared.place.Place.TheVariants as place
use Rattle.rv64_instr.specs.Instruction.{Instruction}
use Rattle.rv64_instr.specs.Form.{has_12_bits, has_form}
use Rattle.read_metadata.specs.Maps.{Maps}
use Rattle.mir_func.specs.declared.block.Block.{Block}
use Rattle.mir_func.specs.declared.framed.SavedRegister.{SavedRegister}
use Rattle.mir_func.specs.declared.item.Item.{Item}
use Rattle.mir_func.specs.declared.item.ItemKind.{ItemKind}
use Rattle.mir_func.specs.declared.item.ItemKind.TheVariants.{Code, Mark, Phi}
use Rattle.mir_func.specs.declared.location.Loc.{Loc}
use Rattle.mir_func.specs.declared.position.Origin.{Origin}
use Rattle.mir_func.specs.declared.position.Origin.TheVariants.{Kept, Before}
use Rattle.mir_func.specs.declared.object.Object as func
use Rattle.mir_func.specs.Function.{Function}
use Rattle.mir_func.specs.Graph.{block_start}
use Rattle.mir_func.specs.Sound.{AllItems, OriginIn, items_of, IsSound, HasForm, HasForm as KindForm}
use Rattle.mir_func.specs.SoundFrame.{SAVED, adds_to_pointer, saves, restores, prologue_code, epilogue_code, IsSlotOffset, IsFramed}
use Rattle.frame_rule.proofs.Forms.{form_same}
use Rattle.frame_rule.specs.Rule.{slots_before, slot_offset, added, added_all, epilogue, renamed_operand, renamed_place}
use Rattle.frame_rule.specs.Rule.{renamed_kind, renamed, framed_item, framed_block, prologue_block, framed_blocks, framed_of, size_of}
use Rattle.frame_rule.specs.Rule.{saved_of}
use Rattle.mir_func.specs.Exits.{leads_back}
use Rattle.mir_func.specs.Positions.{position_of}
use Rattle.base_ids.specs.Limits.{MAX_NUMBER}
use Rattle.read_proof.specs.read_body.Limits.{MAX_ITEMS}
use Rattle.mir_printer.specs.Printable.{IsNumber, HasNumbers, IsPrintablePlace}
use Rattle.mir_printer.specs.Printable.{IsPrintableKind, IsPrintableLoc, IsPrintable}
use Rattle.listing_function.specs.listing_text.Shown.{IsPrintableOrigin}
use Rattle.listing_function.specs.Printable.{IsPrintableNumber, IsPrintableFramedKind, IsPrintableFramedItem, IsPrintableFramedBlock, IsPrintableFramed}
use Rattle.listing_function.proofs.Printed.{both_sides, signed}
use Rattle.read_proof.specs.Read.{IsObjectNumber, declared_in}
use Rattle.listing_proof.specs.Laws.{inlined_in, IsPrintableBlock, IsPrintableBody, ReadFunctionsHavePrintableBodies, BodiesArePrintable}
use Rattle.listing_proof.specs.Laws.{ReadFunctionsArePrintable}

-- ---- numbers

few_by : (b : Bool) (m k : ℕ) → m ≤ k → cond b 0 (suc m) ≤ suc k
few_by true m k few = omega arith
few_by false m k few = omega (arith, few)

before_few : (slots : List ℕ) (n : ℕ) → slots_before slots n ≤ length slots
before_few [] n = omega arith
before_few (s ∷ slots) n = few_by (nat_eq s n) (slots_before slots n) (length slots) (before_few slots n)

tens : (n : ℕ) → n ≤ 2032 → has_12_bits (pos n) ≡ true
tens n low = grind (arith, nat_tests, ints)

lowering : (n : ℕ) → n ≤ 2032 → has_12_bits (pos 0 -ℤ pos n) ≡ true
lowering n low = grind (arith, nat_tests, ints)

small_all : (rs : List ℕ) → list_all (λ r. nat_lt r 32) rs ≡ true → All (λ r. r < 2 ^ 32) rs
small_all [] all = All-nil (λ r. r < 2 ^ 32)
small_all (r ∷ rs) all =
    let both = and_parts (nat_lt r 32) (list_all (λ x. nat_lt x 32) rs) all in
    let less : r < 32 = ltb-true r 32 both.0 in
    All-cons (λ x. x < 2 ^ 32) r rs (omega (arith, less)) (small_all rs both.1)

each_saved : All (λ r. r < 2 ^ 32) SAVED
each_saved = small_all SAVED refl

all_flat : {X Y : Type 0} (P : Y → Type 0) (Q : X → Type 0) (g : X → List Y) → ((x : X) → Q x → All P (g x)) → (xs : List X) → All Q xs → All P (flat_map g xs)
all_flat P Q g each [] all = All-nil P
all_flat P Q g each (x ∷ xs) all = All-append P (g x) (flat_map g xs) (each x (All-head Q x xs all)) (all_flat P Q g each xs (All-tail Q x xs all))

unmapped : (P : ℕ → Type 0) (ss : List SavedRegister) → All P (map (λ s. s.offset) ss) → All (λ s. P s.offset) ss
unmapped P [] all = All-nil (λ (s : SavedRegister). P s.offset)
unmapped P (s ∷ ss) all =
    All-cons (λ (x : SavedRegister). P x.offset) s ss (All-head P s.offset (map (λ x. x.offset) ss) all)
    (unmapped P ss (All-tail P s.offset (map (λ x. x.offset) ss) all))

module _ (inlined : ℕ → Option ℕ) (f : Function) (body : IsPrintableBody inlined f) (sound : IsSound f) (has_forms : AllItems (λ i. KindForm i.kind) f.blocks)
    (framed : IsFramed (framed_of f)) where
  abbrev Fit : Item → Type 0
  Fit = IsPrintableFramedItem inlined

  -- ---- what is added

  record SavedFits (s : SavedRegister) : Type 0 where
    register : IsNumber s.register
    offset : IsNumber s.offset

  saved_fits : (ss : List SavedRegister) → All (λ s. Contains SAVED s.register) ss → All (λ s. IsSlotOffset (framed_of f) s.offset) ss → All SavedFits ss
  saved_fits [] kept offsets = All-nil SavedFits
  saved_fits (s ∷ ss) kept offsets =
      let at = All-head (λ (x : SavedRegister). IsSlotOffset (framed_of f) x.offset) s ss offsets in
      let size = framed.small in
      All-cons SavedFits s ss
      (record {
        register = All-contains (λ r. r < 2 ^ 32) SAVED s.register each_saved (All-head (λ (x : SavedRegister). Contains SAVED x.register) s ss kept);
        offset = omega (arith, at.1, size);
      })
      (saved_fits ss (All-tail (λ (x : SavedRegister). Contains SAVED x.register) s ss kept) (All-tail (λ (x : SavedRegister). IsSlotOffset
      (framed_of f) x.offset) s ss offsets))

  all_saved : All SavedFits (saved_of f)
  all_saved =
      let offsets = both_sides (IsSlotOffset (framed_of f)) (map (λ s. s.offset) (framed_of f).offsets) (map (λ s. s.offset) (saved_of f)) framed.offsets in
      saved_fits (saved_of f) framed.saved_kept (unmapped (IsSlotOffset (framed_of f)) (saved_of f) offsets.1)

  -- code that is added: its form and its numbers
  record CodeFits (c : Instruction) : Type 0 where
    form : has_form c.op c.operands ≡ true
    numbers : All HasNumbers c.operands

  sum_fits : (x : ℤ) → has_12_bits x ≡ true → CodeFits (adds_to_pointer x)
  sum_fits x e = record {
    form = (λ j. e j && true);
    numbers = All-cons HasNumbers (Def 2) (Use 2 ∷ Imm x ∷ []) (omega arith) (All-cons HasNumbers (Use 2) (Imm x ∷ []) (omega arith) (All-cons HasNumbers (Imm
        x) [] (signed x e) (All-nil HasNumbers)));
  }

  save_fits : (s : SavedRegister) → SavedFits s → CodeFits (saves s)
  save_fits s fits = record {
    form = refl;
    numbers = All-cons HasNumbers (Use s.register) (Slot s.offset ∷ Imm (pos 0) ∷ []) fits.register (All-cons HasNumbers (Slot s.offset) (Imm
        (pos 0) ∷ []) fits.offset (All-cons HasNumbers (Imm (pos 0)) [] (omega arith) (All-nil HasNumbers)));
  }

  restore_fits : (s : SavedRegister) → SavedFits s → CodeFits (restores s)
  restore_fits s fits = record {
    form = refl;
    numbers = All-cons HasNumbers (Def s.register) (Slot s.offset ∷ Imm (pos 0) ∷ []) fits.register (All-cons HasNumbers (Slot s.offset) (Imm
        (pos 0) ∷ []) fits.offset (All-cons HasNumbers (Imm (pos 0)) [] (omega arith) (All-nil HasNumbers)));
  }

  each_mapped : (g : SavedRegister → Instruction) → ((s : SavedRegister) → SavedFits s → CodeFits (g s)) → (ss : List SavedRegister) → All SavedFits ss →
      All CodeFits (map g ss)
  each_mapped g each [] all = All-nil CodeFits
  each_mapped g each (s ∷ ss) all =
      All-cons CodeFits (g s) (map g ss) (each s (All-head SavedFits s ss all)) (each_mapped g each ss (All-tail SavedFits s ss all))

  prologue_fits : All CodeFits (prologue_code (size_of f) (saved_of f))
  prologue_fits =
      All-cons CodeFits (adds_to_pointer (pos 0 -ℤ pos (size_of f))) (map saves (saved_of f)) (sum_fits (pos 0 -ℤ pos (size_of f)) (lowering (size_of f)
      framed.small)) (each_mapped saves save_fits (saved_of f) all_saved)

  epilogue_fits : All CodeFits (epilogue_code (size_of f) (saved_of f))
  epilogue_fits =
      All-append CodeFits (map restores (saved_of f)) (adds_to_pointer (pos (size_of f)) ∷ []) (each_mapped restores restore_fits (saved_of f) all_saved)
      (All-cons CodeFits (adds_to_pointer (pos (size_of f))) [] (sum_fits (pos (size_of f)) (tens (size_of f) framed.small)) (All-nil CodeFits))

  added_fit : (o : Origin) → IsPrintableOrigin o → (cs : List Instruction) → All CodeFits cs → All Fit (map (added o) cs)
  added_fit o is [] all = All-nil Fit
  added_fit o is (c ∷ cs) all =
      let here = All-head CodeFits c cs all in
      All-cons Fit (added o c) (map (added o) cs) (record { form = here.form; kind = (here.numbers, tt); origin = is; loc = tt })
      (added_fit o is cs (All-tail CodeFits c cs all))

  all_added : (size : ℕ) (o : Origin) → IsPrintableOrigin o → (cs : List Instruction) → All CodeFits cs → All Fit (added_all size o cs)
  all_added zero o is cs all = All-nil Fit
  all_added (suc n) o is cs all = added_fit o is cs all

  -- ---- what was there

  offset_small : (n : ℕ) → IsNumber (slot_offset f.slots n)
  offset_small n = let few = sound.few_slots in let before = before_few f.slots n in omega (arith, few, before)

  renamed_number : (o : Operand) → HasNumbers o → HasNumbers (renamed_operand f.slots o)
  renamed_number (Slot n) is = offset_small n
  renamed_number (Outgoing n) is = offset_small n
  renamed_number _ is = is

  renamed_numbers : (os : List Operand) → All HasNumbers os → All HasNumbers (map (renamed_operand f.slots) os)
  renamed_numbers [] all = All-nil HasNumbers
  renamed_numbers (o ∷ os) all =
      All-cons HasNumbers (renamed_operand f.slots o) (map (renamed_operand f.slots) os) (renamed_number o (All-head HasNumbers o os all))
      (renamed_numbers os (All-tail HasNumbers o os all))

  place_fits : (p : Option Place) → IsPrintablePlace p → IsPrintablePlace (renamed_place f.slots p)
  place_fits None is = is
  place_fits (Some (place.Register r)) is = is
  place_fits (Some (place.Slot n)) is = offset_small n
  place_fits (Some (place.Const c)) is = is

  form_fits : (kind : ItemKind) → KindForm kind → HasForm (renamed_kind f.slots kind)
  form_fits (Code c k) is = form_same f.slots c.op c.operands ∙ is
  form_fits (Mark v m) is = tt
  form_fits (Phi p k) is = tt

  kind_fits : (loc : Loc) (kind : ItemKind) → IsPrintableFramedKind inlined loc kind → IsPrintableFramedKind inlined loc (renamed_kind f.slots kind)
  kind_fits loc (Code c k) is = (renamed_numbers c.operands is.0, is.1)
  kind_fits loc (Mark v m) is = is
  kind_fits loc (Phi p k) is = (place_fits p is.0, is.1)

  origin_fits : (b : Block) (o : Origin) → IsPrintableBlock inlined b → OriginIn b o → IsPrintableOrigin o
  origin_fits b (Kept p) has is = (subst IsNumber (sym is.0) has.id, omega (arith, is.1, has.source_end))
  origin_fits b (Before p) has is = (subst IsNumber (sym is.0) has.id, omega (arith, is.1, has.source_end))

  position_fits : (o : Origin) → IsPrintableOrigin o → IsPrintableOrigin (Before (position_of o))
  position_fits (Kept p) is = is
  position_fits (Before p) is = is

  -- what is known of an item that was there
  record Known (i : Item) : Type 0 where
    form : KindForm i.kind
    kind : IsPrintableFramedKind inlined i.loc i.kind
    loc : IsPrintableLoc i.loc
    origin : IsPrintableOrigin i.origin

  by_end : (b : Bool) (o : Origin) → IsPrintableOrigin o → All Fit (cond b (epilogue f o) [])
  by_end true o is = all_added (size_of f) (Before (position_of o)) (position_fits o is) (epilogue_code (size_of f) (saved_of f)) epilogue_fits
  by_end false o is = All-nil Fit

  item_fits : (i : Item) → Known i → All Fit (framed_item f i)
  item_fits i known =
      All-append Fit (cond (leads_back i.kind) (epilogue f i.origin) []) (renamed f.slots i ∷ [])
      (by_end (leads_back i.kind) i.origin known.origin)
      (All-cons Fit (renamed f.slots i) [] (record {
        form = form_fits i.kind known.form;
        kind = kind_fits i.loc i.kind known.kind;
        origin = known.origin;
        loc = known.loc;
      }) (All-nil Fit))

  record KnownBlock (b : Block) : Type 0 where
    numbers : IsPrintableBlock inlined b
    items : All Known b.items

  items_known : (b : Block) (items : List Item) → IsPrintableBlock inlined b → All (λ i. KindForm i.kind) items →
      All (λ i. IsPrintableFramedKind inlined i.loc i.kind) items → All (λ i. IsPrintableLoc i.loc) items → All (λ i. OriginIn b i.origin) items →
      All Known items
  items_known b [] has forms kinds locs origins = All-nil Known
  items_known b (i ∷ items) has forms kinds locs origins =
      All-cons Known i items
      (record {
        form = All-head (λ (x : Item). KindForm x.kind) i items forms;
        kind = All-head (λ (x : Item). IsPrintableFramedKind inlined x.loc x.kind) i items kinds;
        loc = All-head (λ (x : Item). IsPrintableLoc x.loc) i items locs;
        origin = origin_fits b i.origin has (All-head (λ (x : Item). OriginIn b x.origin) i items origins);
      })
      (items_known b items has (All-tail (λ (x : Item). KindForm x.kind) i items forms)
      (All-tail (λ (x : Item). IsPrintableFramedKind inlined x.loc x.kind) i items kinds) (All-tail (λ (x : Item). IsPrintableLoc x.loc) i items locs)
      (All-tail (λ (x : Item). OriginIn b x.origin) i items origins))

  blocks_known : (bs : List Block) → All (IsPrintableBlock inlined) bs → AllItems (λ i. KindForm i.kind) bs →
      All (λ b. All (λ i. OriginIn b i.origin) b.items) bs → All KnownBlock bs
  blocks_known [] has forms origins = All-nil KnownBlock
  blocks_known (b ∷ bs) has forms origins =
      let here = All-head (IsPrintableBlock inlined) b bs has in
      All-cons KnownBlock b bs
      (record {
        numbers = here;
        items = items_known b b.items here (All-head (λ (x : Block). All (λ i. KindForm i.kind) x.items) b bs forms) here.kinds here.locs
            (All-head (λ (x : Block). All (λ i. OriginIn x i.origin) x.items) b bs origins);
      })
      (blocks_known bs (All-tail (IsPrintableBlock inlined) b bs has) (All-tail (λ (x : Block). All (λ i. KindForm i.kind) x.items) b bs forms)
      (All-tail (λ (x : Block). All (λ i. OriginIn x i.origin) x.items) b bs origins))

  -- ---- all blocks

  abbrev FitBlock : Block → Type 0
  FitBlock = IsPrintableFramedBlock inlined

  block_fits : (b : Block) → KnownBlock b → FitBlock (framed_block f b)
  block_fits b known = record { id = known.numbers.id; items = all_flat Fit Known (framed_item f) item_fits b.items known.items }

  prologue_block_fits : (b : Block) → KnownBlock b → FitBlock (prologue_block f b)
  prologue_block_fits b known = record {
    id = known.numbers.id;
    items = all_added (size_of f) (Before (block_start b.id)) (known.numbers.id, omega arith) (prologue_code (size_of f) (saved_of f)) prologue_fits;
  }

  all_blocks : (bs : List Block) → All KnownBlock bs → All FitBlock (map (framed_block f) bs)
  all_blocks [] known = All-nil FitBlock
  all_blocks (b ∷ bs) known =
      All-cons FitBlock (framed_block f b) (map (framed_block f) bs) (block_fits b (All-head KnownBlock b bs known)) (all_blocks bs (All-tail KnownBlock b bs
      known))

  blocks_fit : (bs : List Block) → All KnownBlock bs → All FitBlock (framed_blocks f bs)
  blocks_fit [] known = All-nil FitBlock
  blocks_fit (b ∷ bs) known =
      All-cons FitBlock (prologue_block f b) (framed_block f b ∷ map (framed_block f) bs) (prologue_block_fits b (All-head KnownBlock b bs known))
      (all_blocks (b ∷ bs) known)

  fits : IsPrintableFramed inlined (framed_of f)
  fits = record { objects = body.objects; blocks = blocks_fit f.blocks (blocks_known f.blocks body.blocks has_forms sound.origins) }

pub bodies_are_printable : BodiesArePrintable
bodies_are_printable inlined f body sound form framed = fits inlined f body sound form framed

-- ---- the numbers of a function that was read have 32 bits

number : (n : ℕ) → n ≤ MAX_NUMBER → IsNumber n
number n small = omega (arith, small)

module _ (meta : Maps) (f : Function) where
  abbrev ReadItem : Item → Type 0
  ReadItem = IsPrintable (declared_in meta f)

  kind_known : (loc : Loc) (kind : ItemKind) → IsPrintableKind (declared_in meta f) loc kind → IsPrintableFramedKind (inlined_in meta) loc kind
  kind_known loc (Code c k) is = (is.0.numbers, is.1)
  kind_known loc (Mark v m) is = (record { node = is.0.node; inlined = is.0.inlined; part = is.0.part }, is.1)
  kind_known loc (Phi p k) is = is

  blocks_printable : (bs : List Block) → length (items_of bs) ≤ MAX_ITEMS → All (λ b. b.id ≤ MAX_NUMBER) bs → All (λ b. b.source_end ≡ length b.items) bs →
      AllItems ReadItem bs → All (IsPrintableBlock (inlined_in meta)) bs
  blocks_printable [] few ids source_end prints = All-nil (IsPrintableBlock (inlined_in meta))
  blocks_printable (b ∷ bs) few ids source_end prints =
      let both = length-append b.items (items_of bs) in
      let here = All-head (λ (x : Block). x.source_end ≡ length x.items) b bs source_end in
      let items = All-head (λ (x : Block). All ReadItem x.items) b bs prints in
      All-cons (IsPrintableBlock (inlined_in meta)) b bs
      (record {
        id = number b.id (All-head (λ (x : Block). x.id ≤ MAX_NUMBER) b bs ids);
        source_end = omega (arith, few, both, here);
        kinds = All-weaker ReadItem (λ (i : Item). IsPrintableFramedKind (inlined_in meta) i.loc i.kind)
            (λ i is. kind_known i.loc i.kind is.kind) b.items items;
        locs = All-weaker ReadItem (λ (i : Item). IsPrintableLoc i.loc) (λ i is. is.loc) b.items items;
      })
      (blocks_printable bs (omega (arith, few, both)) (All-tail (λ (x : Block). x.id ≤ MAX_NUMBER) b bs ids)
      (All-tail (λ (x : Block). x.source_end ≡ length x.items) b bs source_end) (All-tail (λ (x : Block). All ReadItem x.items) b bs prints))

object_number : (id : ℕ) (fixed : Option ℤ) → IsObjectNumber id fixed → IsPrintableNumber id fixed
object_number id None small = number id small
object_number id (Some d) is = (omega (arith, is.1), is.0)

pub read_bodies : ReadFunctionsHavePrintableBodies
read_bodies meta f read = record {
  objects = All-weaker (λ (o : func.Object). IsObjectNumber o.id o.fixed_offset) (λ (o : func.Object). IsPrintableNumber o.id o.fixed_offset)
      (λ o is. object_number o.id o.fixed_offset is) f.objects read.objects;
  blocks = blocks_printable meta f f.blocks read.few_items read.ids read.read.source_end read.printable;
}

pub printable : ReadFunctionsArePrintable
printable meta f read framed = bodies_are_printable (inlined_in meta) f (read_bodies meta f read) read.sound read.form framed
