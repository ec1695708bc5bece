-- Generated functions are sound.
--
-- Their blocks are made one after the other. By induction on how many were made: their numbers are those from 0 on, each block's
-- items are fine for all blocks of the function and its ends are those of a block, and the numbers of its items go on rising.
use Rattle.std.proofs.Common.{◌≡◌, ℕ, zero, suc, ◌+◌, ◌<◌, ◌≤◌, List, [], ◌∷◌, ◌++◌, length, get_or, refl, sym, ap, ◌∙◌, subst, arith, lit≤}
use Rattle.std.proofs.Common.{length-append, inl, inr}
use Rattle.std.proofs.Math.ListN.{get_or-append}
use Rattle.std.proofs.Math.Seq.{get_or-append_seam}
use Rattle.std.proofs.lemmas.Bool.{cases_eq}
use Rattle.std.specs.List.{All}
use Rattle.std.proofs.lemmas.List.{map-append, append-nil}
use Rattle.std.proofs.lemmas.List.Elements.{All-nil, All-cons, All-append, All-head, All-tail}
use Rattle.std.proofs.lemmas.Grind.{flat_map-append}
use Rattle.mir_func.specs.declared.block.Block.{Block}
use Rattle.mir_func.specs.declared.item.Item.{Item}
use Rattle.mir_func.specs.declared.item.ItemKind.{ItemKind}
use Rattle.std.specs.Prelude.{codes}
use Rattle.mir_func.specs.declared.object.Object.{Object}
use Rattle.mir_func.specs.Objects.{area_of, IsFixedAt}
use Rattle.mir_func.specs.Sound.{AreApart, ids_of, items_of, TargetsIn, SlotsIn, ObjectsIn, LeavesPointer, OriginIn, EndsWell, Closes, LastCloses}
use Rattle.mir_func.specs.Sound.{IsSoundObject, IsSound, KindPassesFirst}
use Rattle.mir_func.proofs.Apart.{at_slice_get}
use Rattle.gen_function.specs.Draws.{Drawn}
use Rattle.gen_function.specs.Generator.{groups, end, beginning, block_items, placed, block_of, blocks_made, generated}
use Rattle.gen_function.proofs.Placing.{item_at}
use Rattle.gen_function.proofs.Plain.{SLOTS, IsFine, plain_body}
use Rattle.gen_function.proofs.Ends.{HasBelow, end_ends, end_of_last, ends_behind, closes_behind, fine_behind}
use Rattle.gen_function.proofs.Rising.{RisingItems, ends_items, items_on, rising_placed, rises_block, numbers_once}

-- ---- numbers of blocks

-- these are the numbers from 0 on
abbrev IsUpTo : List ℕ → ℕ → Type 0
IsUpTo ids n = (length ids ≡ n) × ((i d : ℕ) → i < n → get_or ids i d ≡ i)

up_to_more : (ids : List ℕ) (n : ℕ) → IsUpTo ids n → IsUpTo (ids ++ n ∷ []) (suc n)
up_to_more ids n h = (simp length-append (omega arith), at) where
  at : (i d : ℕ) → i < suc n → get_or (ids ++ n ∷ []) i d ≡ i
  at i d l = elim (cases_eq i n) [
    | inl e ↦ subst (λ (k : ℕ). get_or (ids ++ n ∷ []) k d ≡ k) (h.0 ∙ sym e) (get_or-append_seam ids n [] d ∙ sym h.0)
    | inr e ↦ get_or-append ids (n ∷ []) d i (omega arith) ∙ h.1 i d (omega arith)
  ]

up_to_apart : (ids : List ℕ) (n : ℕ) → IsUpTo ids n → AreApart ids
up_to_apart ids n h i j m e f =
    let a = at_slice_get ids i m e in
    let b = at_slice_get ids j m f in
    sym (h.1 i 0 (omega arith)) ∙ (a.1 0 ∙ (sym (b.1 0) ∙ h.1 j 0 (omega arith)))

up_to_has : (ids : List ℕ) (n : ℕ) → IsUpTo ids n → HasBelow ids n
up_to_has ids n h k l = (k, omega arith, h.1 k k l)

ids_made : (count n : ℕ) (d : Drawn) → IsUpTo (ids_of (blocks_made count n d).blocks) n
unfolding blocks_made
ids_made count zero d = (refl, λ i e l. absurd (omega arith))
ids_made count (suc n) d =
    let before = (blocks_made count n d).blocks in
    let last = block_of n (block_items count n (blocks_made count n d).rest).kinds in
    subst (λ (ids : List ℕ). IsUpTo ids (suc n)) (sym (map-append (λ (b : Block). b.id) before (last ∷ [])))
    (up_to_more (ids_of before) n (ids_made count n d))

length_made : (count n : ℕ) (d : Drawn) → length (blocks_made count n d).blocks ≡ n
unfolding blocks_made
length_made count zero d = refl
length_made count (suc n) d =
    let h = length_made count n d in simp length-append (omega arith)

-- ---- blocks

-- what a block of a function with these blocks keeps
record IsFineBlock (ids : List ℕ) (b : Block) : Type 0 where
  fine : All (λ i. IsFine ids i.kind) b.items
  origins : All (λ i. OriginIn b i.origin) b.items
  ends : EndsWell b.items

items_fine : (ids : List ℕ) (b n : ℕ) (kinds : List ItemKind) → All (IsFine ids) kinds → All (λ i. IsFine ids i.kind) (placed b n kinds)
items_fine ids b n [] h = All-nil (λ (i : Item). IsFine ids i.kind)
items_fine ids b n (k ∷ kinds) h =
    All-cons (λ (i : Item). IsFine ids i.kind) (item_at b n k) (placed b (suc n) kinds) (All-head (IsFine ids) k kinds h)
    (items_fine ids b (suc n) kinds (All-tail (IsFine ids) k kinds h))

origins_in : (b : Block) (n : ℕ) (kinds : List ItemKind) → n + length kinds ≤ b.source_end → All (λ i. OriginIn b i.origin) (placed b.id n kinds)
origins_in b n [] l = All-nil (λ (i : Item). OriginIn b i.origin)
origins_in b n (k ∷ kinds) l =
    All-cons (λ (i : Item). OriginIn b i.origin) (item_at b.id n k) (placed b.id (suc n) kinds) (refl, omega arith)
    (origins_in b (suc n) kinds (omega arith))

block_fine : (ids : List ℕ) (count b : ℕ) (d : Drawn) → HasBelow ids count → b < count → IsFineBlock ids (block_of b (block_items count b d).kinds)
unfolding block_items
block_fine ids count b d has l =
    let body = beginning b ++ (groups 6 d).kinds in
    let w = (groups 6 d).rest in
    let plain = plain_body ids b d in
    let last = end_ends ids count b w has l in
    let kinds = body ++ (end count b w).kinds in
    record {
      fine = items_fine ids b 0 kinds (fine_behind ids body (end count b w).kinds plain last);
      origins = origins_in (block_of b kinds) 0 kinds (omega arith);
      ends = ends_behind ids body (end count b w).kinds plain last b 0;
    }

blocks_fine : (ids : List ℕ) (count n : ℕ) (d : Drawn) → HasBelow ids count → n ≤ count → All (IsFineBlock ids) (blocks_made count n d).blocks
unfolding blocks_made
blocks_fine ids count zero d has l = All-nil (IsFineBlock ids)
blocks_fine ids count (suc n) d has l =
    let before = blocks_made count n d in
    let last = block_of n (block_items count n before.rest).kinds in
    All-append (IsFineBlock ids) before.blocks (last ∷ []) (blocks_fine ids count n d has (omega arith))
    (All-cons (IsFineBlock ids) last [] (block_fine ids count n before.rest has (omega arith)) (All-nil (IsFineBlock ids)))

-- ---- numbers

rising_made : (count n : ℕ) (d : Drawn) → RisingItems d.given (items_of (blocks_made count n d).blocks) (blocks_made count n d).rest.given
unfolding blocks_made
rising_made count zero d = ends_items
rising_made count (suc n) d =
    let before = blocks_made count n d in
    let made = block_items count n before.rest in
    let last = block_of n made.kinds in
    let e : items_of (before.blocks ++ last ∷ []) ≡ items_of before.blocks ++ last.items =
    flat_map-append (λ (b : Block). b.items) before.blocks (last ∷ []) ∙ ap (λ (xs : List Item). items_of before.blocks ++ xs) (append-nil last.items) in
    subst (λ (xs : List Item). RisingItems d.given xs made.rest.given) (sym e)
    (items_on (rising_made count n d) (rising_placed n 0 (rises_block count n before.rest)))

-- ---- the last block

last_behind : (bs : List Block) (b : Block) → Closes b.items → LastCloses (bs ++ b ∷ [])
last_behind [] b h = h
last_behind (c ∷ []) b h = h
last_behind (c ∷ e ∷ bs) b h = last_behind (e ∷ bs) b h

block_closes : (count b : ℕ) (d : Drawn) → b + 1 ≡ count → Closes (placed b 0 (block_items count b d).kinds)
unfolding block_items
block_closes count b d e =
    let body = beginning b ++ (groups 6 d).kinds in
    let w = (groups 6 d).rest in
    subst (λ (kinds : List ItemKind). Closes (placed b 0 (body ++ kinds))) (sym (end_of_last count b w e)) (closes_behind body b 0)

made_closes : (count n : ℕ) (d : Drawn) → n ≡ count → 1 ≤ n → LastCloses (blocks_made count n d).blocks
unfolding blocks_made
made_closes count zero d e l = absurd (omega arith)
made_closes count (suc n) d e l =
    let before = blocks_made count n d in
    last_behind before.blocks (block_of n (block_items count n before.rest).kinds) (block_closes count n before.rest (omega arith))

-- ---- the function

each : (ids : List ℕ) (P : Item → Type 0) → ((i : Item) → IsFine ids i.kind → P i) → (items : List Item) → All (λ i. IsFine ids i.kind) items → All P items
each ids P f [] h = All-nil P
each ids P f (i ∷ items) h =
    All-cons P i items (f i (All-head (λ (x : Item). IsFine ids x.kind) i items h)) (each ids P f items (All-tail (λ (x : Item). IsFine ids x.kind) i items h))

blocks_each : (ids : List ℕ) (Q : Block → Type 0) → ((b : Block) → IsFineBlock ids b → Q b) → (bs : List Block) → All (IsFineBlock ids) bs → All Q bs
blocks_each ids Q f [] h = All-nil Q
blocks_each ids Q f (b ∷ bs) h =
    All-cons Q b bs (f b (All-head (IsFineBlock ids) b bs h)) (blocks_each ids Q f bs (All-tail (IsFineBlock ids) b bs h))

slots_apart : AreApart SLOTS
slots_apart = up_to_apart SLOTS 4 (refl, λ i d l. at i d l) where
  at : (i d : ℕ) → i < 4 → get_or SLOTS i d ≡ i
  at zero d l = refl
  at (suc zero) d l = refl
  at (suc (suc zero)) d l = refl
  at (suc (suc (suc zero))) d l = refl
  at (suc (suc (suc (suc i)))) d l = absurd (omega arith)

pub generated_is_sound : (number count : ℕ) → 1 ≤ count → count ≤ 512 → IsSound (generated number count)
generated_is_sound number count some few =
    let start : Drawn = record { state = number; given = 0 } in
    let blocks = (blocks_made count count start).blocks in
    let ids = ids_of blocks in
    let up = ids_made count count start in
    let all = blocks_fine ids count count start (up_to_has ids count up) (omega arith) in
    let len = length_made count count start in
    record {
      blocks_apart = up_to_apart ids count up;
      slots_apart = slots_apart;
      objects_apart = λ i j n e f. absurd cc;
      few_blocks = omega arith;
      few_slots = lit≤ tt;
      each_object = All-nil IsSoundObject;
      objects_laid = record {
        each = tt;
        several = λ e. absurd cc;
        fixed = All-nil (λ (o : Object). IsFixedAt (area_of []) o.offset o.fixed_offset);
      };
      targets = blocks_each ids (λ b. All (λ i. TargetsIn ids i.kind) b.items) (λ b h. each ids (λ i. TargetsIn ids i.kind) (λ i k. k.targets) b.items h.fine)
          blocks all;
      slots = blocks_each ids (λ b. All (λ i. SlotsIn SLOTS i.kind) b.items) (λ b h. each ids (λ i. SlotsIn SLOTS i.kind) (λ i k. k.slots) b.items h.fine)
          blocks all;
      passed = blocks_each ids (λ b. All (λ i. KindPassesFirst SLOTS i.kind) b.items)
          (λ b h. each ids (λ i. KindPassesFirst SLOTS i.kind) (λ i k. k.passed) b.items h.fine) blocks all;
      objects = blocks_each ids (λ b. All (λ i. ObjectsIn [] i.kind) b.items) (λ b h. each ids (λ i. ObjectsIn [] i.kind) (λ i k. k.objects) b.items h.fine)
          blocks all;
      pointer = blocks_each ids (λ b. All (λ i. LeavesPointer i.kind) b.items) (λ b h. each ids (λ i. LeavesPointer i.kind) (λ i k. k.pointer) b.items h.fine)
          blocks all;
      numbers = numbers_once (items_of blocks) (rising_made count count start);
      origins = blocks_each ids (λ b. All (λ i. OriginIn b i.origin) b.items) (λ b h. h.origins) blocks all;
      ends = blocks_each ids (λ b. EndsWell b.items) (λ b h. h.ends) blocks all;
      last = made_closes count count start refl some;
    }

-- so is a function of these parts
pub parts_are_sound : (number count : ℕ) (name slots : List ℕ) (objects : List Object) (blocks : List Block) → name ≡ codes "gen" → slots ≡ SLOTS →
    objects ≡ [] → blocks ≡ (blocks_made count count (record { state = number; given = 0 })).blocks → 1 ≤ count → count ≤ 512 →
    IsSound (record { name = name; slots = slots; objects = objects; blocks = blocks })
parts_are_sound number count name slots objects blocks n s o b some few =
    subst (λ (x : List Block). IsSound (record { name = name; slots = slots; objects = objects; blocks = x })) (sym b)
    (subst (λ (x : List Object). IsSound (record {
      name = name;
      slots = slots;
      objects = x;
      blocks =
          (blocks_made count count (record { state = number; given = 0 })).blocks;
    })) (sym o)
    (subst (λ (x : List ℕ). IsSound (record {
      name = name;
      slots = x;
      objects = [];
      blocks =
          (blocks_made count count (record { state = number; given = 0 })).blocks;
    })) (sym s)
    (subst (λ (x : List ℕ). IsSound (record {
      name = x;
      slots = SLOTS;
      objects = [];
      blocks =
          (blocks_made count count (record { state = number; given = 0 })).blocks;
    })) (sym n) (generated_is_sound number count some few))))
