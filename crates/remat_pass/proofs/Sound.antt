-- A function in which constants were set is a function still, wherever the pass stops.
use Rattle.std.proofs.Common.{◌≡◌, ℕ, suc, ◌<◌, ◌≤◌, List, [], ◌∷◌, length, All, refl, sym, ap, ◌∙◌, subst, inl, inr, arith}
use Rattle.std.proofs.lemmas.List.Elements.{All-cons, All-head, All-tail}
use Rattle.mir_func.specs.declared.position.Origin.{Origin}
use Rattle.mir_func.specs.declared.position.Origin.TheVariants.{Kept, Before}
use Rattle.mir_func.specs.declared.block.Block.{Block}
use Rattle.mir_func.specs.declared.item.Item.{Item}
use Rattle.mir_func.specs.declared.item.ItemKind.{ItemKind}
use Rattle.mir_func.specs.declared.item.ItemKind.TheVariants.{Code, Mark, Phi}
use Rattle.mir_func.specs.declared.object.Object.{Object}
use Rattle.mir_func.specs.declared.exit.Exit.{Exit}
use Rattle.mir_func.specs.declared.exit.Exit.TheVariants.{Onward, Perhaps, Always, Final}
use Rattle.mir_func.specs.Function.{Function}
use Rattle.mir_func.specs.Exits.{row_exit, exit_of, IsAlways, Leaves}
use Rattle.mir_func.specs.Limits.{MAX_BLOCKS}
use Rattle.mir_func.specs.Sound.{AreApart, ids_of, items_of, number_of, code_number, NumbersOnce, OriginIn, TargetIn, PassesFirst, KindPassesFirst}
use Rattle.mir_func.specs.Sound.{TargetsIn, SlotIn, PassedIn, SlotsIn, ObjectIn, ObjectsIn}
use Rattle.mir_func.specs.Sound.{IsNotPointer, LeavesPointer, MayFollow, EndsWell, Closes, LastCloses, IsSound}
use Rattle.remat_pass.specs.Known.{Known}
use Rattle.remat_pass.specs.Remat.{constant_for, set_or_same, set_in, rematerialized}
use Rattle.remat_pass.specs.Partly.{MayBeSet, AreItemsSet, none, next, AreBlocksSet, no_blocks, next_block}
use Rattle.remat_pass.proofs.Replaced.{replaced, row_replaced, row_stays}
use Rattle.remat_pass.proofs.Pairs.{operands_replaced}
use Rattle.remat_pass.proofs.Partly.{kept_by, origin_kept, item_back, all_items_set, blocks_set}

-- ---- items

exit_kept : (known : Known) (k : ItemKind) → exit_of (set_in known k) ≡ exit_of k
exit_kept known (Code i n) =
    row_stays row_exit Onward (λ rd rs. refl) (λ rd s. refl) (λ rd m. refl) known i (set_or_same (constant_for known i) i) (replaced known i)
exit_kept known (Mark v m) = refl
exit_kept known (Phi p n) = refl

code_number_kept : (known : Known) (k : ItemKind) → code_number (set_in known k) ≡ code_number k
code_number_kept known (Code i n) = refl
code_number_kept known (Mark v m) = refl
code_number_kept known (Phi p n) = refl

number_kept : (known : Known) (k : ItemKind) → number_of (set_in known k) ≡ number_of k
number_kept known (Code i n) = refl
number_kept known (Mark v m) = refl
number_kept known (Phi p n) = refl

targets_kept : (ids : List ℕ) (known : Known) (k : ItemKind) → TargetsIn ids k → TargetsIn ids (set_in known k)
targets_kept ids known (Code i n) h = row_replaced (TargetIn ids) (λ rd m. tt) known i (set_or_same (constant_for known i) i) (replaced known i) h
targets_kept ids known (Mark v m) h = h
targets_kept ids known (Phi p n) h = h

slots_kept : (slots : List ℕ) (known : Known) (k : ItemKind) → SlotsIn slots k → SlotsIn slots (set_in known k)
slots_kept slots known (Code i n) h = (
  row_replaced (SlotIn slots) (λ rd m. tt) known i (set_or_same (constant_for known i) i) (replaced known i) h.0,
  operands_replaced (PassedIn slots) tt (λ z. tt) known i (set_or_same (constant_for known i) i) (replaced known i) h.1,
)
slots_kept slots known (Mark v m) h = h
slots_kept slots known (Phi p n) h = h

first_kept : (slots : List ℕ) (known : Known) (k : ItemKind) → KindPassesFirst slots k → KindPassesFirst slots (set_in known k)
first_kept slots known (Code i n) h =
    row_replaced (PassesFirst slots) (λ rd m. tt) known i (set_or_same (constant_for known i) i) (replaced known i) h
first_kept slots known (Mark v m) h = h
first_kept slots known (Phi p n) h = h

objects_kept : (objects : List Object) (known : Known) (k : ItemKind) → ObjectsIn objects k → ObjectsIn objects (set_in known k)
objects_kept objects known (Code i n) h =
    row_replaced (ObjectIn objects) (λ rd m. tt) known i (set_or_same (constant_for known i) i) (replaced known i) h
objects_kept objects known (Mark v m) h = h
objects_kept objects known (Phi p n) h = h

pointer_kept : (known : Known) (k : ItemKind) → LeavesPointer k → LeavesPointer (set_in known k)
pointer_kept known (Code i n) h =
    operands_replaced IsNotPointer (λ (e : 0 ≡ 2). cc) (λ z. tt) known i (set_or_same (constant_for known i) i) (replaced known i) h
pointer_kept known (Mark v m) h = h
pointer_kept known (Phi p n) h = h

origin_in : (a b : Block) (o : Origin) → b.id ≡ a.id → b.source_end ≡ a.source_end → OriginIn a o → OriginIn b o
origin_in a b (Kept p) id source_end h = (h.0 ∙ sym id, subst (λ (n : ℕ). p.item < n) (sym source_end) h.1)
origin_in a b (Before p) id source_end h = (h.0 ∙ sym id, subst (λ (n : ℕ). p.item ≤ n) (sym source_end) h.1)

-- ---- ends

exit_of_set : (x y : Item) → MayBeSet x y → exit_of y.kind ≡ exit_of x.kind
exit_of_set x y m = kept_by exit_of exit_kept x y m

empty_set : (xs ys : List Item) → AreItemsSet xs ys → xs ≡ [] → ys ≡ []
empty_set xs ys none e = refl
empty_set (x ∷ xs) (y ∷ ys) (next m rest) e = cc

jump_set : (n : ℕ) (xs ys : List Item) → AreItemsSet xs ys → MayFollow (Perhaps n) xs → MayFollow (Perhaps n) ys
jump_set n xs ys none h = tt
jump_set n (x ∷ xs) (y ∷ ys) (next m none) h = subst IsAlways (sym (exit_of_set x y m)) h
jump_set n (x ∷ z ∷ xs) (y ∷ w ∷ ys) (next m (next k rest)) h = absurd h

follow_set : (e : Exit) (xs ys : List Item) → AreItemsSet xs ys → MayFollow e xs → MayFollow e ys
follow_set Onward xs ys r h = tt
follow_set (Perhaps n) xs ys r h = jump_set n xs ys r h
follow_set (Always n) xs ys r h = empty_set xs ys r h
follow_set Final xs ys r h = empty_set xs ys r h

ends_set : (xs ys : List Item) → AreItemsSet xs ys → EndsWell xs → EndsWell ys
ends_set xs ys none h = tt
ends_set (x ∷ xs) (y ∷ ys) (next m rest) h =
    (subst (λ (e : Exit). MayFollow e ys) (sym (exit_of_set x y m)) (follow_set (exit_of x.kind) xs ys rest h.0), ends_set xs ys rest h.1)

closes_set : (xs ys : List Item) → AreItemsSet xs ys → Closes xs → Closes ys
closes_set xs ys none h = absurd h
closes_set (x ∷ xs) (y ∷ ys) (next m none) h = subst Leaves (sym (exit_of_set x y m)) h
closes_set (x ∷ z ∷ xs) (y ∷ w ∷ ys) (next m (next k rest)) h = closes_set (z ∷ xs) (w ∷ ys) (next k rest) h

last_set : (fs gs : List Block) → AreBlocksSet fs gs → LastCloses fs → LastCloses gs
last_set fs gs no_blocks h = absurd h
last_set (a ∷ fs) (b ∷ gs) (next_block id source_end items no_blocks) h = closes_set a.items b.items items h
last_set (a ∷ c ∷ fs) (b ∷ d ∷ gs) (next_block id source_end items (next_block id' silent' items' rest)) h =
    last_set (c ∷ fs) (d ∷ gs) (next_block id' silent' items' rest) h

-- ---- blocks

all_none : {A : Type 0} (P : A → Type 0) → All P []
all_none P k d lt = absurd (omega (arith, lt))

-- what holds of each item of each block, and so of it with a constant set
module _ (P Q : Block → Item → Type 0) (stays : (a b : Block) (x y : Item) → b.id ≡ a.id → b.source_end ≡ a.source_end → MayBeSet x y → P a x → Q b y) where
  each_in : (a b : Block) → b.id ≡ a.id → b.source_end ≡ a.source_end → (xs ys : List Item) → AreItemsSet xs ys → All (P a) xs → All (Q b) ys
  each_in a b id source_end xs ys none h = all_none (Q b)
  each_in a b id source_end (x ∷ xs) (y ∷ ys) (next m rest) h =
      All-cons (Q b) y ys (stays a b x y id source_end m (All-head (P a) x xs h)) (each_in a b id source_end xs ys rest (All-tail (P a) x xs h))

  pub each_set : (fs gs : List Block) → AreBlocksSet fs gs → All (λ (b : Block). All (P b) b.items) fs → All (λ (b : Block). All (Q b) b.items) gs
  each_set fs gs no_blocks h = all_none (λ (b : Block). All (Q b) b.items)
  each_set (a ∷ fs) (b ∷ gs) (next_block id source_end items rest) h =
      All-cons (λ (c : Block). All (Q c) c.items) b gs (each_in a b id source_end a.items b.items items (All-head (λ (c : Block). All (P c) c.items) a fs h))
      (each_set fs gs rest (All-tail (λ (c : Block). All (P c) c.items) a fs h))

pub kinds_set : (P Q : ItemKind → Type 0) → ((k : ItemKind) → P k → Q k) → ((known : Known) (k : ItemKind) → P k → Q (set_in known k)) → (fs gs : List Block) →
    AreBlocksSet fs gs → All (λ (b : Block). All (λ (i : Item). P i.kind) b.items) fs → All (λ (b : Block). All (λ (i : Item). Q i.kind) b.items) gs
kinds_set P Q same set fs gs r h =
    each_set (λ b i. P i.kind) (λ b i. Q i.kind) (λ a b x y id source_end m k. (elim m [
      | inl e ↦ subst (λ (i : Item). Q i.kind) (sym e) (same x.kind k)
      | inr w ↦ subst (λ (i : Item). Q i.kind) (sym w.1) (set w.0 x.kind k)
    ])) fs gs r h

ends_all : (fs gs : List Block) → AreBlocksSet fs gs → All (λ (b : Block). EndsWell b.items) fs → All (λ (b : Block). EndsWell b.items) gs
ends_all fs gs no_blocks h = all_none (λ (b : Block). EndsWell b.items)
ends_all (a ∷ fs) (b ∷ gs) (next_block id source_end items rest) h =
    All-cons (λ (c : Block). EndsWell c.items) b gs (ends_set a.items b.items items (All-head (λ (c : Block). EndsWell c.items) a fs h))
    (ends_all fs gs rest (All-tail (λ (c : Block). EndsWell c.items) a fs h))

ids_set : (fs gs : List Block) → AreBlocksSet fs gs → ids_of gs ≡ ids_of fs
ids_set fs gs no_blocks = refl
ids_set (a ∷ fs) (b ∷ gs) (next_block id source_end items rest) = let e = ids_set fs gs rest in λ t. id t ∷ e t

length_set : (fs gs : List Block) → AreBlocksSet fs gs → length gs ≡ length fs
length_set fs gs no_blocks = refl
length_set (a ∷ fs) (b ∷ gs) (next_block id source_end items rest) = ap suc (length_set fs gs rest)

once_set : (xs ys : List Item) → AreItemsSet xs ys → NumbersOnce xs → NumbersOnce ys
once_set xs ys r once i j x y k atx cx aty ny =
    let a = item_back xs ys r i x atx in
    let b = item_back xs ys r j y aty in
    once i j a.0 b.0 k a.1 (sym (kept_by code_number code_number_kept a.0 x a.2) ∙ cx) b.1 (sym (kept_by number_of number_kept b.0 y b.2) ∙ ny)

pub sound_set : (f : Function) (bs : List Block) → AreBlocksSet f.blocks bs → IsSound f → IsSound (record f { blocks = bs })
sound_set f bs r s =
    let ids : ids_of bs ≡ ids_of f.blocks = ids_set f.blocks bs r in
    record {
      blocks_apart = subst (λ (ns : List ℕ). AreApart ns) (sym ids) s.blocks_apart;
      slots_apart = s.slots_apart;
      objects_apart = s.objects_apart;
      few_blocks = subst (λ (n : ℕ). n ≤ MAX_BLOCKS) (sym (length_set f.blocks bs r)) s.few_blocks;
      few_slots = s.few_slots;
      each_object = s.each_object;
      objects_laid = s.objects_laid;
      targets = subst (λ (ns : List ℕ). All (λ (b : Block). All (λ (i : Item). TargetsIn ns i.kind) b.items) bs) (sym ids)
          (kinds_set (TargetsIn (ids_of f.blocks)) (TargetsIn (ids_of f.blocks)) (λ k h. h) (targets_kept (ids_of f.blocks)) f.blocks bs r s.targets);
      slots = kinds_set (SlotsIn f.slots) (SlotsIn f.slots) (λ k h. h) (slots_kept f.slots) f.blocks bs r s.slots;
      passed = kinds_set (KindPassesFirst f.slots) (KindPassesFirst f.slots) (λ k h. h) (first_kept f.slots) f.blocks bs r s.passed;
      objects = kinds_set (ObjectsIn f.objects) (ObjectsIn f.objects) (λ k h. h) (objects_kept f.objects) f.blocks bs r s.objects;
      pointer = kinds_set LeavesPointer LeavesPointer (λ k h. h) pointer_kept f.blocks bs r s.pointer;
      numbers = once_set (items_of f.blocks) (items_of bs) (all_items_set f.blocks bs r) s.numbers;
      origins = each_set (λ b i. OriginIn b i.origin) (λ b i. OriginIn b i.origin)
          (λ a b x y id source_end m h. subst (OriginIn b) (sym (origin_kept x y m)) (origin_in a b x.origin id source_end h)) f.blocks bs r s.origins;
      ends = ends_all f.blocks bs r s.ends;
      last = last_set f.blocks bs r s.last;
    }

pub sound_rematerialized : (f : Function) → IsSound f → IsSound (rematerialized f)
sound_rematerialized f s = sound_set f (rematerialized f).blocks (blocks_set f.blocks) s
