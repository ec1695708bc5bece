-- Taking out debug items and making the frame come to the same in either order.
use Rattle.std.proofs.Common.{◌≡◌, ℕ, zero, suc, ◌+◌, ◌*◌, List, [], ◌∷◌, ◌++◌, map, length, filter, Bool, true, false, cond, ◌||◌, None, refl, sym, ap, ◌∙◌}
use Rattle.std.specs.List.{list_any}
use Rattle.std.proofs.lemmas.List.Elements.{filter_map-append}
use Rattle.rv64_instr.specs.Instruction.{Instruction}
use Rattle.rv64_instr.specs.Row.{row_of}
use Rattle.mir_func.specs.declared.block.Block.{Block}
use Rattle.mir_func.specs.declared.framed.SavedRegister.{SavedRegister}
use Rattle.mir_func.specs.declared.item.Item.{Item}
use Rattle.mir_func.specs.declared.item.ItemKind.{ItemKind}
use Rattle.mir_func.specs.declared.item.ItemKind.TheVariants.{Code, Mark, Phi}
use Rattle.mir_func.specs.declared.location.Loc.{Loc}
use Rattle.mir_func.specs.declared.position.Origin.{Origin}
use Rattle.mir_func.specs.declared.position.Origin.TheVariants.{Before}
use Rattle.mir_func.specs.Exits.{row_leads_back}
use Rattle.mir_func.specs.Function.{Function}
use Rattle.mir_func.specs.Graph.{block_start}
use Rattle.mir_func.specs.Objects.{up_to, area_of}
use Rattle.mir_func.specs.SoundFrame.{SAVED, prologue_code, epilogue_code}
use Rattle.mir_func.specs.Strip.{stripped_item, stripped_items, stripped_blocks, stripped}
use Rattle.mir_func.specs.Positions.{position_of}
use Rattle.frame_rule.specs.Rule.{sets_register, is_set, saved_places, saved_of, size_of, added, added_all, epilogue, prologue}
use Rattle.frame_rule.specs.Rule.{slot_places, renamed, framed_items, framed_block, framed_blocks, framed_of}
use Rattle.invariance_code.specs.Alike.{FramesStrip, FramesSame}

-- ---- what is saved

-- the registers that a test picks
abbrev pub picked : (ℕ → Bool) → List ℕ
picked test = filter test SAVED

-- the places of the registers that a test picks
abbrev pub saved_by : Function → (ℕ → Bool) → List SavedRegister
saved_by f test = saved_places (8 * length f.slots) (picked test)

-- the frame's bytes where a test picks what is saved
abbrev pub size_by : Function → (ℕ → Bool) → ℕ
size_by f test = up_to 16 (8 * (length f.slots + length (picked test))) + area_of f.objects

-- debug items set no register
set_first : (r : ℕ) (k : ItemKind) (o : Origin) (l : Loc) (xs : List Item) →
    list_any (λ i. sets_register r i.kind) (stripped_items xs) ≡ list_any (λ i. sets_register r i.kind) xs →
    list_any (λ i. sets_register r i.kind) (stripped_items (record { kind = k; origin = o; loc = l } ∷ xs)) ≡
    (sets_register r k || list_any (λ i. sets_register r i.kind) xs)
set_first r (Code i n) o l xs h = ap (λ (z : Bool). sets_register r (Code i n) || z) h
set_first r (Mark v m) o l xs h = h
set_first r (Phi p n) o l xs h = h

set_in : (r : ℕ) (xs : List Item) → list_any (λ i. sets_register r i.kind) (stripped_items xs) ≡ list_any (λ i. sets_register r i.kind) xs
set_in r [] = refl
set_in r (x ∷ xs) = set_first r x.kind x.origin x.loc xs (set_in r xs)

set_stripped : (bs : List Block) (r : ℕ) → is_set (stripped_blocks bs) r ≡ is_set bs r
set_stripped [] r = refl
set_stripped (b ∷ bs) r = let e = set_in r b.items in let es = set_stripped bs r in λ i. e i || es i

-- ---- what is added

stripped_added : (o : Origin) (code : List Instruction) → stripped_items (map (added o) code) ≡ map (added o) code
stripped_added o [] = refl
stripped_added o (x ∷ code) = ap (λ (ys : List Item). added o x ∷ ys) (stripped_added o code)

-- what is added is code without numbers
stripped_all : (size : ℕ) (o : Origin) (code : List Instruction) → stripped_items (added_all size o code) ≡ added_all size o code
stripped_all zero o code = refl
stripped_all (suc n) o code = stripped_added o code

-- ---- the body

module _ (f : Function) where
  sets_same : (r : ℕ) → is_set (stripped_blocks f.blocks) r ≡ is_set f.blocks r
  sets_same r = set_stripped f.blocks r

  size_same : size_of (stripped f) ≡ size_of f
  size_same = λ i. size_by f (λ r. sets_same r i)

  saved_same : saved_of (stripped f) ≡ saved_of f
  saved_same = λ i. saved_by f (λ r. sets_same r i)

  epilogue_same : (o : Origin) → epilogue (stripped f) o ≡ stripped_items (epilogue f o)
  epilogue_same o =
      let size = size_same in
      let saved = saved_same in
      let e : epilogue (stripped f) o ≡ epilogue f o = λ i. added_all (size i) (Before (position_of o)) (epilogue_code (size i) (saved i)) in
      e ∙ sym (stripped_all (size_of f) (Before (position_of o)) (epilogue_code (size_of f) (saved_of f)))

  prologue_same : (first : ℕ) → prologue (stripped f) first ≡ stripped_items (prologue f first)
  prologue_same first =
      let size = size_same in
      let saved = saved_same in
      let e : prologue (stripped f) first ≡ prologue f first = λ i. added_all (size i) (Before (block_start first)) (prologue_code (size i) (saved i)) in
      e ∙ sym (stripped_all (size_of f) (Before (block_start first)) (prologue_code (size_of f) (saved_of f)))

  before_same : (z : Bool) (o : Origin) → cond z (epilogue (stripped f) o) [] ≡ stripped_items (cond z (epilogue f o) [])
  before_same true o = epilogue_same o
  before_same false o = refl

  joined : (xs : List Item) (y : Item) (ys : List Item) →
      (stripped_items xs ++ stripped_items (y ∷ [])) ++ stripped_items ys ≡ stripped_items ((xs ++ y ∷ []) ++ ys)
  joined xs y ys =
      ap (λ (zs : List Item). zs ++ stripped_items ys) (sym (filter_map-append stripped_item xs (y ∷ [])))
      ∙ sym (filter_map-append stripped_item (xs ++ y ∷ []) ys)

  first_same : (k : ItemKind) (o : Origin) (l : Loc) (xs : List Item) → framed_items (stripped f) (stripped_items xs) ≡ stripped_items (framed_items f xs) →
      framed_items (stripped f) (stripped_items (record { kind = k; origin = o; loc = l } ∷ xs)) ≡
      stripped_items (framed_items f (record { kind = k; origin = o; loc = l } ∷ xs))
  first_same (Code c n) o l xs h =
      let z = row_leads_back (row_of c) in
      let e = before_same z o in
      let item = renamed f.slots (record { kind = Code c None; origin = o; loc = l }) in
      let numbered = renamed f.slots (record { kind = Code c n; origin = o; loc = l }) in
      (λ i. (e i ++ item ∷ []) ++ h i) ∙ joined (cond z (epilogue f o) []) numbered (framed_items f xs)
  first_same (Mark v m) o l xs h = h
  first_same (Phi p n) o l xs h = h

  items_same : (xs : List Item) → framed_items (stripped f) (stripped_items xs) ≡ stripped_items (framed_items f xs)
  items_same [] = refl
  items_same (x ∷ xs) = first_same x.kind x.origin x.loc xs (items_same xs)

  rest_same : (bs : List Block) → map (framed_block (stripped f)) (stripped_blocks bs) ≡ stripped_blocks (map (framed_block f) bs)
  rest_same [] = refl
  rest_same (b ∷ bs) =
      let e = items_same b.items in let es = rest_same bs in λ i. record { id = b.id; items = e i; source_end = b.source_end } ∷ es i

  blocks_same : (bs : List Block) → framed_blocks (stripped f) (stripped_blocks bs) ≡ stripped_blocks (framed_blocks f bs)
  blocks_same [] = refl
  blocks_same (b ∷ bs) =
      let p = prologue_same b.id in
      let es = rest_same (b ∷ bs) in
      λ i. record { id = b.id; items = p i; source_end = b.source_end } ∷ es i

pub frames_strip : FramesStrip
frames_strip f =
    let size = size_same f in
    let saved = saved_same f in
    let blocks = blocks_same f f.blocks in
    λ i. record {
      name = f.name;
      size = size i;
      offsets = slot_places 0 f.slots;
      saved = saved i;
      objects = f.objects;
      blocks = blocks i;
    }

pub frames_same : FramesSame
frames_same f g same = sym (frames_strip f) ∙ ap framed_of same ∙ frames_strip g
