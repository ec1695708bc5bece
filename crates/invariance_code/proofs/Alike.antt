-- Functions whose code is alike have frames with alike code.
use Rattle.std.proofs.Common.{◌≡◌, ℕ, zero, suc, List, [], ◌∷◌, ◌++◌, map, Bool, true, false, cond, ◌||◌, refl, sym, ap, ◌∙◌}
use Rattle.std.specs.List.{list_any}
use Rattle.rv64_instr.specs.Instruction.{Instruction}
use Rattle.mir_func.specs.declared.block.Block.{Block}
use Rattle.mir_func.specs.declared.item.Item.{Item}
use Rattle.mir_func.specs.declared.position.Origin.{Origin}
use Rattle.mir_func.specs.declared.position.Origin.TheVariants.{Kept, Before}
use Rattle.mir_func.specs.declared.position.Pos.{Pos}
use Rattle.mir_func.specs.Exits.{leads_back}
use Rattle.mir_func.specs.Function.{Function}
use Rattle.mir_func.specs.Graph.{block_start}
use Rattle.mir_func.specs.SoundFrame.{prologue_code, epilogue_code}
use Rattle.mir_func.specs.Strip.{stripped}
use Rattle.mir_func.specs.Positions.{position_of}
use Rattle.pass_trait.specs.Code.{originless_origin, originless_item, originless_block, originless}
use Rattle.frame_rule.specs.Rule.{sets_register, is_set, saved_of, size_of, added, added_all, epilogue, prologue}
use Rattle.frame_rule.specs.Rule.{slot_places, renamed, framed_item, framed_items, framed_block, framed_blocks, framed_of}
use Rattle.invariance_code.specs.Alike.{originless_framed, FramesAlike}
use Rattle.invariance_code.proofs.Strips.{saved_by, size_by, frames_strip}

-- ---- what is saved

set_in : (r : ℕ) (xs : List Item) → list_any (λ i. sets_register r i.kind) (map originless_item xs) ≡ list_any (λ i. sets_register r i.kind) xs
set_in r [] = refl
set_in r (x ∷ xs) = ap (λ (z : Bool). sets_register r x.kind || z) (set_in r xs)

set_originless : (bs : List Block) (r : ℕ) → is_set (map originless_block bs) r ≡ is_set bs r
set_originless [] r = refl
set_originless (b ∷ bs) r = let e = set_in r b.items in let es = set_originless bs r in λ i. e i || es i

-- ---- what is added

added_originless : (p q : Pos) (code : List Instruction) → map originless_item (map (added (Before p)) code) ≡ map originless_item (map (added (Before q)) code)
added_originless p q [] = refl
added_originless p q (x ∷ code) = ap (λ (ys : List Item). originless_item (added (Before q) x) ∷ ys) (added_originless p q code)

all_originless : (p q : Pos) (size : ℕ) (code : List Instruction) →
    map originless_item (added_all size (Before p) code) ≡ map originless_item (added_all size (Before q) code)
all_originless p q zero code = refl
all_originless p q (suc n) code = added_originless p q code

origin_twice : (o : Origin) → originless_origin (originless_origin o) ≡ originless_origin o
origin_twice (Kept p) = refl
origin_twice (Before p) = refl

map_joined : (xs ys : List Item) → map originless_item (xs ++ ys) ≡ map originless_item xs ++ map originless_item ys
map_joined [] ys = refl
map_joined (x ∷ xs) ys = ap (λ (zs : List Item). originless_item x ∷ zs) (map_joined xs ys)

-- ---- the body

module _ (f : Function) where
  size_same : size_of (originless f) ≡ size_of f
  size_same = let sets = set_originless f.blocks in λ i. size_by f (λ r. sets r i)

  saved_same : saved_of (originless f) ≡ saved_of f
  saved_same = let sets = set_originless f.blocks in λ i. saved_by f (λ r. sets r i)

  epilogue_same : (o q : Origin) → map originless_item (epilogue (originless f) o) ≡ map originless_item (epilogue f q)
  epilogue_same o q =
      let size = size_same in
      let saved = saved_same in
      let e : epilogue (originless f) o ≡ added_all (size_of f) (Before (position_of o)) (epilogue_code (size_of f) (saved_of f)) =
      λ i. added_all (size i) (Before (position_of o)) (epilogue_code (size i) (saved i)) in
      ap (map originless_item) e ∙ all_originless (position_of o) (position_of q) (size_of f) (epilogue_code (size_of f) (saved_of f))

  prologue_same : (first : ℕ) → map originless_item (prologue (originless f) first) ≡ map originless_item (prologue f first)
  prologue_same first =
      let size = size_same in
      let saved = saved_same in
      let e : prologue (originless f) first ≡ prologue f first = λ i. added_all (size i) (Before (block_start first)) (prologue_code (size i) (saved i)) in
      ap (map originless_item) e

  before_same : (z : Bool) (o q : Origin) → map originless_item (cond z (epilogue (originless f) o) []) ≡ map originless_item (cond z (epilogue f q) [])
  before_same true o q = epilogue_same o q
  before_same false o q = refl

  renamed_same : (x : Item) → originless_item (renamed f.slots (originless_item x)) ≡ originless_item (renamed f.slots x)
  renamed_same x = let e = origin_twice x.origin in λ i. record (originless_item (renamed f.slots x)) { origin = e i }

  item_same : (x : Item) → map originless_item (framed_item (originless f) (originless_item x)) ≡ map originless_item (framed_item f x)
  item_same x =
      let z = leads_back x.kind in
      let o = originless_origin x.origin in
      let e = before_same z o x.origin in
      let r = renamed_same x in
      map_joined (cond z (epilogue (originless f) o) []) (renamed f.slots (originless_item x) ∷ [])
      ∙ (λ i. e i ++ r i ∷ []) ∙ sym (map_joined (cond z (epilogue f x.origin) []) (renamed f.slots x ∷ []))

  items_same : (xs : List Item) → map originless_item (framed_items (originless f) (map originless_item xs)) ≡ map originless_item (framed_items f xs)
  items_same [] = refl
  items_same (x ∷ xs) =
      let e = item_same x in
      let es = items_same xs in
      map_joined (framed_item (originless f) (originless_item x)) (framed_items (originless f) (map originless_item xs))
      ∙ (λ i. e i ++ es i) ∙ sym (map_joined (framed_item f x) (framed_items f xs))

  rest_same : (bs : List Block) →
      map originless_block (map (framed_block (originless f)) (map originless_block bs)) ≡ map originless_block (map (framed_block f) bs)
  rest_same [] = refl
  rest_same (b ∷ bs) = let e = items_same b.items in let es = rest_same bs in λ i. record { id = b.id; items = e i; source_end = 0 } ∷ es i

  blocks_same : (bs : List Block) → map originless_block (framed_blocks (originless f) (map originless_block bs)) ≡ map originless_block (framed_blocks f bs)
  blocks_same [] = refl
  blocks_same (b ∷ bs) =
      let p = prologue_same b.id in let es = rest_same (b ∷ bs) in λ i. record { id = b.id; items = p i; source_end = 0 } ∷ es i

-- places don't show in the frame, but in the places of what is added
pub framed_originless : (f : Function) → originless_framed (framed_of (originless f)) ≡ originless_framed (framed_of f)
framed_originless f =
    let size = size_same f in
    let saved = saved_same f in
    let blocks = blocks_same f f.blocks in
    λ i. record {
      name = f.name;
      size = size i;
      offsets = slot_places 0 f.slots;
      saved = saved i;
      objects = f.objects;
      blocks = blocks i;
    }

pub frames_alike : FramesAlike
frames_alike f g alike =
    ap originless_framed (sym (frames_strip f)) ∙ sym (framed_originless (stripped f))
    ∙ ap (λ (h : Function). originless_framed (framed_of h)) alike
    ∙ framed_originless (stripped g) ∙ ap originless_framed (frames_strip g)
