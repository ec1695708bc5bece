-- A function whose calls and ends read the global registers is a function still.
use Rattle.std.proofs.Common.{◌≡◌, ℕ, suc, ◌<◌, ◌≤◌, Bool, List, [], ◌∷◌, length, All, refl, sym, ap, ◌∙◌, subst, arith}
use Rattle.std.proofs.lemmas.List.Elements.{All-cons, All-head, All-tail}
use Rattle.mir_func.specs.declared.position.Origin.{Origin}
use Rattle.mir_func.specs.declared.position.Origin.TheVariants.{Kept, Before}
use Rattle.mir_func.specs.declared.block.Block.{Block}
use Rattle.mir_func.specs.declared.item.Item.{Item}
use Rattle.mir_func.specs.declared.item.ItemKind.{ItemKind}
use Rattle.mir_func.specs.declared.item.ItemKind.TheVariants.{Code, Mark, Phi}
use Rattle.mir_func.specs.declared.object.Object.{Object}
use Rattle.mir_func.specs.declared.exit.Exit.{Exit}
use Rattle.mir_func.specs.declared.exit.Exit.TheVariants.{Onward, Perhaps, Always, Final}
use Rattle.mir_func.specs.Function.{Function}
use Rattle.mir_func.specs.Exits.{row_exit, exit_of, IsAlways, Leaves}
use Rattle.mir_func.specs.Limits.{MAX_BLOCKS}
use Rattle.mir_func.specs.Sound.{AreApart, ids_of, items_of, number_of, code_number, NumbersOnce, OriginIn, TargetIn, PassesFirst, KindPassesFirst}
use Rattle.mir_func.specs.Sound.{TargetsIn, SlotIn, PassedIn, SlotsIn, ObjectIn, ObjectsIn}
use Rattle.mir_func.specs.Sound.{IsNotPointer, LeavesPointer, MayFollow, EndsWell, Closes, LastCloses, IsSound}
use Rattle.global_registers.specs.Shared.{kind_by, function_by}
use Rattle.global_registers.proofs.Behind.{row_shared, operands_hold}
use Rattle.global_registers.proofs.Changed.{MayBeShared, AreItemsShared, none, next, AreBlocksShared, no_blocks, next_block}
use Rattle.global_registers.proofs.Changed.{kept_by, origin_kept, item_back, all_items_shared, blocks_shared}

-- ---- items

exit_kept : (shares : Bool) (k : ItemKind) → exit_of (kind_by shares k) ≡ exit_of k
exit_kept shares (Code i n) =
    ap row_exit (row_shared shares i)
exit_kept shares (Mark v m) = refl
exit_kept shares (Phi p n) = refl

code_number_kept : (shares : Bool) (k : ItemKind) → code_number (kind_by shares k) ≡ code_number k
code_number_kept shares (Code i n) = refl
code_number_kept shares (Mark v m) = refl
code_number_kept shares (Phi p n) = refl

number_kept : (shares : Bool) (k : ItemKind) → number_of (kind_by shares k) ≡ number_of k
number_kept shares (Code i n) = refl
number_kept shares (Mark v m) = refl
number_kept shares (Phi p n) = refl

targets_kept : (ids : List ℕ) (shares : Bool) (k : ItemKind) → TargetsIn ids k → TargetsIn ids (kind_by shares k)
targets_kept ids shares (Code i n) h = subst (TargetIn ids) (sym (row_shared shares i)) h
targets_kept ids shares (Mark v m) h = h
targets_kept ids shares (Phi p n) h = h

slots_kept : (slots : List ℕ) (shares : Bool) (k : ItemKind) → SlotsIn slots k → SlotsIn slots (kind_by shares k)
slots_kept slots shares (Code i n) h = (
  subst (SlotIn slots) (sym (row_shared shares i)) h.0,
  operands_hold (PassedIn slots) tt shares i h.1,
)
slots_kept slots shares (Mark v m) h = h
slots_kept slots shares (Phi p n) h = h

first_kept : (slots : List ℕ) (shares : Bool) (k : ItemKind) → KindPassesFirst slots k → KindPassesFirst slots (kind_by shares k)
first_kept slots shares (Code i n) h =
    subst (PassesFirst slots) (sym (row_shared shares i)) h
first_kept slots shares (Mark v m) h = h
first_kept slots shares (Phi p n) h = h

objects_kept : (objects : List Object) (shares : Bool) (k : ItemKind) → ObjectsIn objects k → ObjectsIn objects (kind_by shares k)
objects_kept objects shares (Code i n) h =
    subst (ObjectIn objects) (sym (row_shared shares i)) h
objects_kept objects shares (Mark v m) h = h
objects_kept objects shares (Phi p n) h = h

pointer_kept : (shares : Bool) (k : ItemKind) → LeavesPointer k → LeavesPointer (kind_by shares k)
pointer_kept shares (Code i n) h =
    operands_hold IsNotPointer tt shares i h
pointer_kept shares (Mark v m) h = h
pointer_kept shares (Phi p n) h = h

origin_in : (a b : Block) (o : Origin) → b.id ≡ a.id → b.source_end ≡ a.source_end → OriginIn a o → OriginIn b o
origin_in a b (Kept p) id source_end h = (h.0 ∙ sym id, subst (λ (n : ℕ). p.item < n) (sym source_end) h.1)
origin_in a b (Before p) id source_end h = (h.0 ∙ sym id, subst (λ (n : ℕ). p.item ≤ n) (sym source_end) h.1)

-- ---- ends

exit_of_shared : (x y : Item) → MayBeShared x y → exit_of y.kind ≡ exit_of x.kind
exit_of_shared x y m = kept_by exit_of exit_kept x y m

empty_shared : (xs ys : List Item) → AreItemsShared xs ys → xs ≡ [] → ys ≡ []
empty_shared xs ys none e = refl
empty_shared (x ∷ xs) (y ∷ ys) (next m rest) e = cc

jump_shared : (n : ℕ) (xs ys : List Item) → AreItemsShared xs ys → MayFollow (Perhaps n) xs → MayFollow (Perhaps n) ys
jump_shared n xs ys none h = tt
jump_shared n (x ∷ xs) (y ∷ ys) (next m none) h = subst IsAlways (sym (exit_of_shared x y m)) h
jump_shared n (x ∷ z ∷ xs) (y ∷ w ∷ ys) (next m (next k rest)) h = absurd h

follow_shared : (e : Exit) (xs ys : List Item) → AreItemsShared xs ys → MayFollow e xs → MayFollow e ys
follow_shared Onward xs ys r h = tt
follow_shared (Perhaps n) xs ys r h = jump_shared n xs ys r h
follow_shared (Always n) xs ys r h = empty_shared xs ys r h
follow_shared Final xs ys r h = empty_shared xs ys r h

ends_shared : (xs ys : List Item) → AreItemsShared xs ys → EndsWell xs → EndsWell ys
ends_shared xs ys none h = tt
ends_shared (x ∷ xs) (y ∷ ys) (next m rest) h =
    (subst (λ (e : Exit). MayFollow e ys) (sym (exit_of_shared x y m)) (follow_shared (exit_of x.kind) xs ys rest h.0), ends_shared xs ys rest h.1)

closes_shared : (xs ys : List Item) → AreItemsShared xs ys → Closes xs → Closes ys
closes_shared xs ys none h = absurd h
closes_shared (x ∷ xs) (y ∷ ys) (next m none) h = subst Leaves (sym (exit_of_shared x y m)) h
closes_shared (x ∷ z ∷ xs) (y ∷ w ∷ ys) (next m (next k rest)) h = closes_shared (z ∷ xs) (w ∷ ys) (next k rest) h

last_shared : (fs gs : List Block) → AreBlocksShared fs gs → LastCloses fs → LastCloses gs
last_shared fs gs no_blocks h = absurd h
last_shared (a ∷ fs) (b ∷ gs) (next_block id source_end items no_blocks) h = closes_shared a.items b.items items h
last_shared (a ∷ c ∷ fs) (b ∷ d ∷ gs) (next_block id source_end items (next_block id' silent' items' rest)) h =
    last_shared (c ∷ fs) (d ∷ gs) (next_block id' silent' items' rest) h

-- ---- blocks

all_none : {A : Type 0} (P : A → Type 0) → All P []
all_none P k d lt = absurd (omega (arith, lt))

-- what holds of each item of each block, and so of what it becomes
module _ (P Q : Block → Item → Type 0) (stays : (a b : Block) (x y : Item) → b.id ≡ a.id → b.source_end ≡ a.source_end → MayBeShared x y → P a x → Q b y) where
  each_in : (a b : Block) → b.id ≡ a.id → b.source_end ≡ a.source_end → (xs ys : List Item) → AreItemsShared xs ys → All (P a) xs → All (Q b) ys
  each_in a b id source_end xs ys none h = all_none (Q b)
  each_in a b id source_end (x ∷ xs) (y ∷ ys) (next m rest) h =
      All-cons (Q b) y ys (stays a b x y id source_end m (All-head (P a) x xs h)) (each_in a b id source_end xs ys rest (All-tail (P a) x xs h))

  pub each_shared : (fs gs : List Block) → AreBlocksShared fs gs → All (λ (b : Block). All (P b) b.items) fs → All (λ (b : Block). All (Q b) b.items) gs
  each_shared fs gs no_blocks h = all_none (λ (b : Block). All (Q b) b.items)
  each_shared (a ∷ fs) (b ∷ gs) (next_block id source_end items rest) h =
      All-cons (λ (c : Block). All (Q c) c.items) b gs (each_in a b id source_end a.items b.items items (All-head (λ (c : Block). All (P c) c.items) a fs h))
      (each_shared fs gs rest (All-tail (λ (c : Block). All (P c) c.items) a fs h))

pub kinds_shared : (P Q : ItemKind → Type 0) → ((shares : Bool) (k : ItemKind) → P k → Q (kind_by shares k)) → (fs gs : List Block) →
    AreBlocksShared fs gs → All (λ (b : Block). All (λ (i : Item). P i.kind) b.items) fs → All (λ (b : Block). All (λ (i : Item). Q i.kind) b.items) gs
kinds_shared P Q set fs gs r h =
    each_shared (λ b i. P i.kind) (λ b i. Q i.kind)
    (λ a b x y id source_end w k. subst (λ (i : Item). Q i.kind) (sym w.1) (set w.0 x.kind k)) fs gs r h

ends_all : (fs gs : List Block) → AreBlocksShared fs gs → All (λ (b : Block). EndsWell b.items) fs → All (λ (b : Block). EndsWell b.items) gs
ends_all fs gs no_blocks h = all_none (λ (b : Block). EndsWell b.items)
ends_all (a ∷ fs) (b ∷ gs) (next_block id source_end items rest) h =
    All-cons (λ (c : Block). EndsWell c.items) b gs (ends_shared a.items b.items items (All-head (λ (c : Block). EndsWell c.items) a fs h))
    (ends_all fs gs rest (All-tail (λ (c : Block). EndsWell c.items) a fs h))

ids_shared : (fs gs : List Block) → AreBlocksShared fs gs → ids_of gs ≡ ids_of fs
ids_shared fs gs no_blocks = refl
ids_shared (a ∷ fs) (b ∷ gs) (next_block id source_end items rest) = let e = ids_shared fs gs rest in λ t. id t ∷ e t

length_shared : (fs gs : List Block) → AreBlocksShared fs gs → length gs ≡ length fs
length_shared fs gs no_blocks = refl
length_shared (a ∷ fs) (b ∷ gs) (next_block id source_end items rest) = ap suc (length_shared fs gs rest)

once_shared : (xs ys : List Item) → AreItemsShared xs ys → NumbersOnce xs → NumbersOnce ys
once_shared xs ys r once i j x y k atx cx aty ny =
    let a = item_back xs ys r i x atx in
    let b = item_back xs ys r j y aty in
    once i j a.0 b.0 k a.1 (sym (kept_by code_number code_number_kept a.0 x a.2) ∙ cx) b.1 (sym (kept_by number_of number_kept b.0 y b.2) ∙ ny)

pub sound_shared : (f : Function) (bs : List Block) → AreBlocksShared f.blocks bs → IsSound f → IsSound (record f { blocks = bs })
sound_shared f bs r s =
    let ids : ids_of bs ≡ ids_of f.blocks = ids_shared f.blocks bs r in
    record {
      blocks_apart = subst (λ (ns : List ℕ). AreApart ns) (sym ids) s.blocks_apart;
      slots_apart = s.slots_apart;
      objects_apart = s.objects_apart;
      few_blocks = subst (λ (n : ℕ). n ≤ MAX_BLOCKS) (sym (length_shared f.blocks bs r)) s.few_blocks;
      few_slots = s.few_slots;
      each_object = s.each_object;
      objects_laid = s.objects_laid;
      targets = subst (λ (ns : List ℕ). All (λ (b : Block). All (λ (i : Item). TargetsIn ns i.kind) b.items) bs) (sym ids)
          (kinds_shared (TargetsIn (ids_of f.blocks)) (TargetsIn (ids_of f.blocks)) (targets_kept (ids_of f.blocks)) f.blocks bs r s.targets);
      slots = kinds_shared (SlotsIn f.slots) (SlotsIn f.slots) (slots_kept f.slots) f.blocks bs r s.slots;
      passed = kinds_shared (KindPassesFirst f.slots) (KindPassesFirst f.slots) (first_kept f.slots) f.blocks bs r s.passed;
      objects = kinds_shared (ObjectsIn f.objects) (ObjectsIn f.objects) (objects_kept f.objects) f.blocks bs r s.objects;
      pointer = kinds_shared LeavesPointer LeavesPointer pointer_kept f.blocks bs r s.pointer;
      numbers = once_shared (items_of f.blocks) (items_of bs) (all_items_shared f.blocks bs r) s.numbers;
      origins = each_shared (λ b i. OriginIn b i.origin) (λ b i. OriginIn b i.origin)
          (λ a b x y id source_end m h. subst (OriginIn b) (sym (origin_kept x y m)) (origin_in a b x.origin id source_end h)) f.blocks bs r s.origins;
      ends = ends_all f.blocks bs r s.ends;
      last = last_shared f.blocks bs r s.last;
    }

pub sound_by : (shares : Bool) (f : Function) → IsSound f → IsSound (function_by shares f)
sound_by shares f s = sound_shared f (function_by shares f).blocks (blocks_shared shares f.blocks) s
