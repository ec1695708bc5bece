-- A function with edited blocks is a function still.
use Rattle.std.proofs.Common.{◌≡◌, ℕ, suc, ◌+◌, ◌≤◌, ◌<◌, List, [], ◌∷◌, map, length, All, Some, refl, sym, ap, ◌∙◌, subst, arith}
use Rattle.std.proofs.lemmas.List.Elements.{All-nil, All-cons, All-head, All-tail}
use Rattle.rv64_instr.specs.declared.place.Place.TheVariants.{Register}
use Rattle.mir_func.specs.declared.exit.Exit.{Exit}
use Rattle.mir_func.specs.declared.exit.Exit.TheVariants.{Onward, Perhaps, Always, Final}
use Rattle.mir_func.specs.declared.object.Object.{Object}
use Rattle.mir_func.specs.declared.position.Origin.{Origin}
use Rattle.mir_func.specs.declared.position.Origin.TheVariants.{Kept, Before}
use Rattle.mir_func.specs.declared.block.Block.{Block}
use Rattle.mir_func.specs.declared.item.Item.{Item}
use Rattle.mir_func.specs.declared.item.ItemKind.{ItemKind}
use Rattle.mir_func.specs.declared.item.ItemKind.TheVariants.{Phi}
use Rattle.mir_func.specs.Exits.{exit_of, IsAlways, Leaves}
use Rattle.mir_func.specs.Objects.{AreLaid}
use Rattle.mir_func.specs.Limits.{MAX_BLOCKS, MAX_SLOTS}
use Rattle.mir_func.specs.Sound.{AreApart, AllItems, ids_of, OriginIn, TargetsIn, SlotsIn, ObjectsIn, LeavesPointer, KindPassesFirst}
use Rattle.mir_func.specs.Sound.{IsJumpAtMost, MayFollow}
use Rattle.mir_func.specs.Sound.{EndsWell, Closes, LastCloses, IsSoundObject}
use Rattle.mir_func.specs.Positions.{position_of}
use Rattle.pass_salvage.specs.Salvage.{phi_for}
use Rattle.pass_edits.specs.Edits.{SameButNumber, same_code, same_kind, IsMove, AreEdited, no_items, stays, with_phi, goes}
use Rattle.pass_edits.specs.Edits.{AreBlocksEdited, no_blocks, next_block, EditsKeepSound}
use Rattle.pass_edits.proofs.Onward.{move_onward, not_alone}

-- ---- what holds of each kind of item whatever its number

module _ (P : ItemKind → Type 0) (same : (k l : ItemKind) → SameButNumber k l → P k → P l) (phi : (k s : ℕ) → P (Phi (Some (Register s)) k)) where
  abbrev Q : Item → Type 0
  Q i = P i.kind

  each_item : (xs ys : List Item) → AreEdited xs ys → All Q xs → All Q ys
  each_item xs ys no_items h = h
  each_item (x ∷ xs) (y ∷ ys) (stays o k rest) h =
      All-cons Q y ys (same x.kind y.kind k (All-head Q x xs h)) (each_item xs ys rest (All-tail Q x xs h))
  each_item (x ∷ xs) (z ∷ y ∷ ys) (with_phi k s m o e rest) h =
      All-cons Q (phi_for k s x.origin) (y ∷ ys) (phi k s)
      (All-cons Q y ys (same x.kind y.kind e (All-head Q x xs h)) (each_item xs ys rest (All-tail Q x xs h)))
  each_item (x ∷ xs) ys (goes m rest) h = each_item xs ys rest (All-tail Q x xs h)

  each_block : (fs gs : List Block) → AreBlocksEdited fs gs → AllItems Q fs → AllItems Q gs
  each_block fs gs no_blocks h = h
  each_block (a ∷ fs) (b ∷ gs) (next_block id source_end items rest) h =
      All-cons (λ (c : Block). All Q c.items) b gs (each_item a.items b.items items (All-head (λ (c : Block). All Q c.items) a fs h))
      (each_block fs gs rest (All-tail (λ (c : Block). All Q c.items) a fs h))

target_same : (ids : List ℕ) (k l : ItemKind) → SameButNumber k l → TargetsIn ids k → TargetsIn ids l
target_same ids k l same_code h = h
target_same ids k l same_kind h = h

slot_same : (slots : List ℕ) (k l : ItemKind) → SameButNumber k l → SlotsIn slots k → SlotsIn slots l
slot_same slots k l same_code h = h
slot_same slots k l same_kind h = h

passed_same : (slots : List ℕ) (k l : ItemKind) → SameButNumber k l → KindPassesFirst slots k → KindPassesFirst slots l
passed_same slots k l same_code h = h
passed_same slots k l same_kind h = h

object_same : (objects : List Object) (k l : ItemKind) → SameButNumber k l → ObjectsIn objects k → ObjectsIn objects l
object_same objects k l same_code h = h
object_same objects k l same_kind h = h

pointer_same : (k l : ItemKind) → SameButNumber k l → LeavesPointer k → LeavesPointer l
pointer_same k l same_code h = h
pointer_same k l same_kind h = h

exit_same : (k l : ItemKind) → SameButNumber k l → exit_of k ≡ exit_of l
exit_same k l same_code = refl
exit_same k l same_kind = refl

-- ---- origins

before_in : (b : Block) (o : Origin) → OriginIn b o → OriginIn b (Before (position_of o))
before_in b (Kept p) h = (h.0, (let lt = h.1 in omega (arith, lt)))
before_in b (Before p) h = h

origin_in : (a b : Block) (o : Origin) → b.id ≡ a.id → b.source_end ≡ a.source_end → OriginIn a o → OriginIn b o
origin_in a b (Kept p) id source_end h = (h.0 ∙ sym id, subst (λ (n : ℕ). p.item < n) (sym source_end) h.1)
origin_in a b (Before p) id source_end h = (h.0 ∙ sym id, subst (λ (n : ℕ). p.item ≤ n) (sym source_end) h.1)

origins_of : (a b : Block) (xs ys : List Item) → b.id ≡ a.id → b.source_end ≡ a.source_end → AreEdited xs ys → All (λ (i : Item). OriginIn a i.origin) xs →
    All (λ (i : Item). OriginIn b i.origin) ys
origins_of a b xs ys id source_end no_items h = All-nil (λ (i : Item). OriginIn b i.origin)
origins_of a b (x ∷ xs) (y ∷ ys) id source_end (stays o e rest) h =
    All-cons (λ (i : Item). OriginIn b i.origin) y ys
    (subst (OriginIn b) (sym o) (origin_in a b x.origin id source_end (All-head (λ (i : Item). OriginIn a i.origin) x xs h)))
    (origins_of a b xs ys id source_end rest (All-tail (λ (i : Item). OriginIn a i.origin) x xs h))
origins_of a b (x ∷ xs) (z ∷ y ∷ ys) id source_end (with_phi k s m o e rest) h =
    let here : OriginIn b x.origin = origin_in a b x.origin id source_end (All-head (λ (i : Item). OriginIn a i.origin) x xs h) in
    All-cons (λ (i : Item). OriginIn b i.origin) (phi_for k s x.origin) (y ∷ ys) (before_in b x.origin here)
    (All-cons (λ (i : Item). OriginIn b i.origin) y ys (subst (OriginIn b) (sym o) here)
    (origins_of a b xs ys id source_end rest (All-tail (λ (i : Item). OriginIn a i.origin) x xs h)))
origins_of a b (x ∷ xs) ys id source_end (goes m rest) h = origins_of a b xs ys id source_end rest (All-tail (λ (i : Item). OriginIn a i.origin) x xs h)

block_origins : (fs gs : List Block) → AreBlocksEdited fs gs → All (λ (b : Block). All (λ (i : Item). OriginIn b i.origin) b.items) fs →
    All (λ (b : Block). All (λ (i : Item). OriginIn b i.origin) b.items) gs
block_origins fs gs no_blocks h = All-nil (λ (b : Block). All (λ (i : Item). OriginIn b i.origin) b.items)
block_origins (a ∷ fs) (b ∷ gs) (next_block id source_end items rest) h =
    All-cons (λ (c : Block). All (λ (i : Item). OriginIn c i.origin) c.items) b gs
    (origins_of a b a.items b.items id source_end items (All-head (λ (c : Block). All (λ (i : Item). OriginIn c i.origin) c.items) a fs h))
    (block_origins fs gs rest (All-tail (λ (c : Block). All (λ (i : Item). OriginIn c i.origin) c.items) a fs h))

-- ---- ends of blocks

none_left : (xs ys : List Item) → AreEdited xs ys → xs ≡ [] → ys ≡ []
none_left xs ys no_items e = refl
none_left (x ∷ xs) ys (stays o k rest) e = cc
none_left (x ∷ xs) ys (with_phi k s m o same rest) e = cc
none_left (x ∷ xs) ys (goes m rest) e = cc

jump_stays : (xs ys : List Item) → AreEdited xs ys → IsJumpAtMost xs → IsJumpAtMost ys
jump_stays xs ys no_items h = tt
jump_stays (x ∷ xs) (y ∷ ys) (stays o e rest) h = by_rest xs ys rest h where
  by_rest : (us vs : List Item) → AreEdited us vs → IsJumpAtMost (x ∷ us) → IsJumpAtMost (y ∷ vs)
  by_rest us vs no_items k = subst IsAlways (exit_same x.kind y.kind e) k
  by_rest (u ∷ us) vs (stays p d more) k = absurd k
  by_rest (u ∷ us) vs (with_phi n s m p d more) k = absurd k
  by_rest (u ∷ us) vs (goes m more) k = absurd k
jump_stays (x ∷ xs) ys (with_phi k s m o e rest) h = absurd (not_alone x xs m h)
jump_stays (x ∷ xs) ys (goes m rest) h = absurd (not_alone x xs m h)

may_follow : (e : Exit) (xs ys : List Item) → AreEdited xs ys → MayFollow e xs → MayFollow e ys
may_follow Onward xs ys rest h = tt
may_follow (Perhaps n) xs ys rest h = jump_stays xs ys rest h
may_follow (Always n) xs ys rest h = none_left xs ys rest h
may_follow Final xs ys rest h = none_left xs ys rest h

end_item : (x y : Item) (xs ys : List Item) → SameButNumber x.kind y.kind → AreEdited xs ys → MayFollow (exit_of x.kind) xs → MayFollow (exit_of y.kind) ys
end_item x y xs ys e rest h =
    subst (λ (z : Exit). MayFollow z ys) (exit_same x.kind y.kind e) (may_follow (exit_of x.kind) xs ys rest h)

ends_stay : (xs ys : List Item) → AreEdited xs ys → EndsWell xs → EndsWell ys
ends_stay xs ys no_items h = h
ends_stay (x ∷ xs) (y ∷ ys) (stays o e rest) h = (end_item x y xs ys e rest h.0, ends_stay xs ys rest h.1)
ends_stay (x ∷ xs) (z ∷ y ∷ ys) (with_phi k s m o e rest) h = (tt, (end_item x y xs ys e rest h.0, ends_stay xs ys rest h.1))
ends_stay (x ∷ xs) ys (goes m rest) h = ends_stay xs ys rest h.1

closes_more : (x : Item) (ys : List Item) → Closes ys → Closes (x ∷ ys)
closes_more x [] h = absurd h
closes_more x (y ∷ ys) h = h

-- control leaves no copy
stays_open : (x : Item) → IsMove x.kind → Leaves (exit_of x.kind) → ⊥
stays_open x m h = subst Leaves (move_onward x.kind m) h

closes_first : (x y : Item) (us vs : List Item) → SameButNumber x.kind y.kind → AreEdited us vs → (Closes us → Closes vs) → Closes (x ∷ us) → Closes (y ∷ vs)
closes_first x y us vs e no_items rec h = subst Leaves (exit_same x.kind y.kind e) h
closes_first x y (u ∷ us) vs e (stays p d more) rec h = closes_more y vs (rec h)
closes_first x y (u ∷ us) vs e (with_phi n s m p d more) rec h = closes_more y vs (rec h)
closes_first x y (u ∷ us) vs e (goes m more) rec h = closes_more y vs (rec h)

closes_move : (x : Item) (us vs : List Item) → IsMove x.kind → (Closes us → Closes vs) → Closes (x ∷ us) → Closes vs
closes_move x [] vs m rec h = absurd (stays_open x m h)
closes_move x (u ∷ us) vs m rec h = rec h

close_stay : (xs ys : List Item) → AreEdited xs ys → Closes xs → Closes ys
close_stay xs ys no_items h = h
close_stay (x ∷ xs) (y ∷ ys) (stays o e rest) h = closes_first x y xs ys e rest (close_stay xs ys rest) h
close_stay (x ∷ xs) (z ∷ y ∷ ys) (with_phi k s m o e rest) h = closes_more z (y ∷ ys) (closes_first x y xs ys e rest (close_stay xs ys rest) h)
close_stay (x ∷ xs) ys (goes m rest) h = closes_move x xs ys m (close_stay xs ys rest) h

block_ends : (fs gs : List Block) → AreBlocksEdited fs gs → All (λ (b : Block). EndsWell b.items) fs → All (λ (b : Block). EndsWell b.items) gs
block_ends fs gs no_blocks h = h
block_ends (a ∷ fs) (b ∷ gs) (next_block id source_end items rest) h =
    All-cons (λ (c : Block). EndsWell c.items) b gs (ends_stay a.items b.items items (All-head (λ (c : Block). EndsWell c.items) a fs h))
    (block_ends fs gs rest (All-tail (λ (c : Block). EndsWell c.items) a fs h))

last_first : (b : Block) (us vs : List Block) (a : Block) → AreBlocksEdited us vs → (Closes a.items → Closes b.items) → (LastCloses us → LastCloses vs) →
    LastCloses (a ∷ us) → LastCloses (b ∷ vs)
last_first b us vs a no_blocks here rec h = here h
last_first b (u ∷ us) (v ∷ vs) a (next_block id source_end items rest) here rec h = rec h

last_stays : (fs gs : List Block) → AreBlocksEdited fs gs → LastCloses fs → LastCloses gs
last_stays fs gs no_blocks h = h
last_stays (a ∷ fs) (b ∷ gs) (next_block id source_end items rest) h =
    last_first b fs gs a rest (close_stay a.items b.items items) (last_stays fs gs rest) h

-- ---- the function

ids_same : (fs gs : List Block) → AreBlocksEdited fs gs → ids_of gs ≡ ids_of fs
ids_same fs gs no_blocks = refl
ids_same (a ∷ fs) (b ∷ gs) (next_block id source_end items rest) = let e = ids_same fs gs rest in λ i. id i ∷ e i

as_many : (fs gs : List Block) → AreBlocksEdited fs gs → length gs ≡ length fs
as_many fs gs no_blocks = refl
as_many (a ∷ fs) (b ∷ gs) (next_block id source_end items rest) = ap suc (as_many fs gs rest)

pub edited_sound : EditsKeepSound
edited_sound old new s slots objects edited once =
    let fs : List Block = old.blocks in
    let gs : List Block = new.blocks in
    let ids : ids_of gs ≡ ids_of fs = ids_same fs gs edited in
    record {
      blocks_apart = subst AreApart (sym ids) s.blocks_apart;
      slots_apart = subst AreApart (sym slots) s.slots_apart;
      objects_apart = subst (λ (os : List Object). AreApart (map (λ o. o.id) os)) (sym objects) s.objects_apart;
      few_blocks = subst (λ (n : ℕ). n ≤ MAX_BLOCKS) (sym (as_many fs gs edited)) s.few_blocks;
      few_slots = subst (λ (n : ℕ). n ≤ MAX_SLOTS) (λ i. length (sym slots i) + length (sym objects i)) s.few_slots;
      each_object = subst (λ (os : List Object). All IsSoundObject os) (sym objects) s.each_object;
      objects_laid = subst (λ (os : List Object). AreLaid os) (sym objects) s.objects_laid;
      targets = subst (λ (ns : List ℕ). AllItems (λ i. TargetsIn ns i.kind) gs) (sym ids)
          (each_block (TargetsIn (ids_of fs)) (target_same (ids_of fs)) (λ k r. tt) fs gs edited s.targets);
      slots = subst (λ (ns : List ℕ). AllItems (λ i. SlotsIn ns i.kind) gs) (sym slots)
          (each_block (SlotsIn old.slots) (slot_same old.slots) (λ k r. tt) fs gs edited s.slots);
      passed = subst (λ (ns : List ℕ). AllItems (λ i. KindPassesFirst ns i.kind) gs) (sym slots)
          (each_block (KindPassesFirst old.slots) (passed_same old.slots) (λ k r. tt) fs gs edited s.passed);
      objects = subst (λ (os : List Object). AllItems (λ i. ObjectsIn os i.kind) gs) (sym objects)
          (each_block (ObjectsIn old.objects) (object_same old.objects) (λ k r. tt) fs gs edited s.objects);
      pointer = each_block LeavesPointer pointer_same (λ k r. tt) fs gs edited s.pointer;
      numbers = once;
      origins = block_origins fs gs edited s.origins;
      ends = block_ends fs gs edited s.ends;
      last = last_stays fs gs edited s.last;
    }
