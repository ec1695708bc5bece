-- A function without its debug items is sound where it was.
use Rattle.std.proofs.Common.{◌≡◌, ℕ, suc, List, [], ◌∷◌, length, Option, Some, None, refl, sym, ap, subst, ◌∙◌}
use Rattle.std.specs.Prelude.{All}
use Rattle.std.specs.List.{cons_option}
use Rattle.std.proofs.lemmas.List.Elements.{All-nil, All-cons, All-head, All-tail, All-append}
use Rattle.rv64_instr.specs.Instruction.{Instruction}
use Rattle.mir_func.specs.declared.block.Block.{Block}
use Rattle.mir_func.specs.declared.item.Item.{Item}
use Rattle.mir_func.specs.declared.item.ItemKind.{ItemKind}
use Rattle.mir_func.specs.declared.item.ItemKind.TheVariants.{Code, Mark, Phi}
use Rattle.mir_func.specs.declared.location.Loc.{Loc}
use Rattle.mir_func.specs.declared.position.Origin.{Origin}
use Rattle.mir_func.specs.declared.position.Origin.TheVariants.{Kept, Before}
use Rattle.mir_func.specs.declared.exit.Exit.{Exit}
use Rattle.mir_func.specs.declared.exit.Exit.TheVariants.{Onward, Perhaps, Always, Final}
use Rattle.mir_func.specs.Exits.{exit_of, IsAlways, Leaves}
use Rattle.mir_func.specs.Function.{Function}
use Rattle.mir_func.specs.Sound.{AreApart, ids_of, items_of, AllItems, TargetsIn, SlotsIn, KindPassesFirst, ObjectsIn, LeavesPointer, code_number}
use Rattle.mir_func.specs.Sound.{NumbersOnce, OriginIn}
use Rattle.mir_func.specs.Sound.{IsJumpAtMost, MayFollow, EndsWell, Closes, LastCloses, IsSound}
use Rattle.mir_func.specs.Strip.{bare, stripped_items, stripped_block, stripped_blocks, stripped}
use Rattle.mir_func.proofs.Checks.{at_get}

ids_of-stripped : (blocks : List Block) → ids_of (stripped_blocks blocks) ≡ ids_of blocks
ids_of-stripped [] = refl
ids_of-stripped (b ∷ bs) = ap (λ (ns : List ℕ). b.id ∷ ns) (ids_of-stripped bs)

length-stripped : (blocks : List Block) → length (stripped_blocks blocks) ≡ length blocks
length-stripped [] = refl
length-stripped (b ∷ bs) = ap suc (length-stripped bs)

-- ---- what each item keeps

-- what holds of code with a number holds of it without
abbrev Carries : (Item → Type 0) → (Item → Type 0) → Type 0
Carries P Q = (i : Instruction) (k : Option ℕ) (o : Origin) (l : Loc) → P (record { kind = Code i k; origin = o; loc = l }) → Q
    (record { kind = Code i None; origin = o; loc = l })

all_with : (P Q : Item → Type 0) → Carries P Q → (k : ItemKind) (o : Origin) (l : Loc) (rest : List Item) → P (record { kind = k; origin = o; loc = l }) →
    All Q rest → All Q (cons_option (bare k o l) rest)
all_with P Q f (Code i k) o l rest p r = All-cons Q (record { kind = Code i None; origin = o; loc = l }) rest (f i k o l p) r
all_with P Q f (Mark v m) o l rest p r = r
all_with P Q f (Phi x k) o l rest p r = r

all_stripped : (P Q : Item → Type 0) → Carries P Q → (items : List Item) → All P items → All Q (stripped_items items)
all_stripped P Q f [] h = All-nil Q
all_stripped P Q f (i ∷ is) h = all_with P Q f i.kind i.origin i.loc (stripped_items is) (All-head P i is h) (all_stripped P Q f is (All-tail P i is h))

blocks_stripped : (P Q : Block → Type 0) → ((b : Block) → P b → Q (stripped_block b)) → (blocks : List Block) → All P blocks → All Q (stripped_blocks blocks)
blocks_stripped P Q f [] h = All-nil Q
blocks_stripped P Q f (b ∷ bs) h = All-cons Q (stripped_block b) (stripped_blocks bs) (f b (All-head P b bs h)) (blocks_stripped P Q f bs (All-tail P b bs h))

items_stripped : (P Q : Item → Type 0) → Carries P Q → (blocks : List Block) → AllItems P blocks → AllItems Q (stripped_blocks blocks)
items_stripped P Q f blocks h = blocks_stripped (λ b. All P b.items) (λ b. All Q b.items) (λ b a. all_stripped P Q f b.items a) blocks h

origin_stripped : (b : Block) (o : Origin) → OriginIn b o → OriginIn (stripped_block b) o
origin_stripped b (Kept p) h = h
origin_stripped b (Before p) h = h

-- ---- no number is left

abbrev HasNone : Item → Type 0
HasNone i = code_number i.kind ≡ None

none_in : (items : List Item) → All HasNone (stripped_items items)
none_in items = all_stripped (λ i. Unit {0}) HasNone (λ i k o l h. refl) items (λ k d l. tt)

none_left : (blocks : List Block) → All HasNone (items_of (stripped_blocks blocks))
none_left [] = All-nil HasNone
none_left (b ∷ bs) = All-append HasNone (stripped_items b.items) (items_of (stripped_blocks bs)) (none_in b.items) (none_left bs)

once_stripped : (blocks : List Block) → NumbersOnce (items_of (stripped_blocks blocks))
once_stripped blocks i j x y k e f g d =
    let gone : code_number x.kind ≡ None = at_get HasNone (items_of (stripped_blocks blocks)) i x (none_left blocks) e in
    let no : ◌≡◌ {A = Option ℕ} None (Some k) = sym gone ∙ f in cc

-- ---- ends

jump_with : (k : ItemKind) (o : Origin) (l : Loc) → IsAlways (exit_of k) → IsJumpAtMost (cons_option (bare k o l) [])
jump_with (Code i k) o l e = e
jump_with (Mark v m) o l e = absurd e
jump_with (Phi x k) o l e = absurd e

jump_stripped : (items : List Item) → IsJumpAtMost items → IsJumpAtMost (stripped_items items)
jump_stripped [] h = tt
jump_stripped (j ∷ []) h = jump_with j.kind j.origin j.loc h
jump_stripped (j ∷ i ∷ is) h = absurd h

follow_stripped : (x : Exit) (rest : List Item) → MayFollow x rest → MayFollow x (stripped_items rest)
follow_stripped Onward rest h = tt
follow_stripped (Perhaps n) rest h = jump_stripped rest h
follow_stripped (Always n) rest h = ap stripped_items h
follow_stripped Final rest h = ap stripped_items h

ends_with : (k : ItemKind) (o : Origin) (l : Loc) (rest : List Item) → MayFollow (exit_of k) rest → EndsWell rest → EndsWell (cons_option (bare k o l) rest)
ends_with (Code i k) o l rest m e = (m, e)
ends_with (Mark v m) o l rest n e = e
ends_with (Phi x k) o l rest n e = e

ends_stripped : (items : List Item) → EndsWell items → EndsWell (stripped_items items)
ends_stripped [] h = tt
ends_stripped (i ∷ is) h = ends_with i.kind i.origin i.loc (stripped_items is) (follow_stripped (exit_of i.kind) is h.0) (ends_stripped is h.1)

closes_alone : (k : ItemKind) (o : Origin) (l : Loc) → Leaves (exit_of k) → Closes (cons_option (bare k o l) [])
closes_alone (Code i k) o l e = e
closes_alone (Mark v m) o l e = absurd e
closes_alone (Phi x k) o l e = absurd e

closes_after : (k : ItemKind) (o : Origin) (l : Loc) (rest : List Item) → Closes rest → Closes (cons_option (bare k o l) rest)
closes_after (Code i k) o l [] h = absurd h
closes_after (Code i k) o l (j ∷ rest) h = h
closes_after (Mark v m) o l rest h = h
closes_after (Phi x k) o l rest h = h

closes_stripped : (items : List Item) → Closes items → Closes (stripped_items items)
closes_stripped [] h = h
closes_stripped (i ∷ []) h = closes_alone i.kind i.origin i.loc h
closes_stripped (i ∷ j ∷ is) h = closes_after i.kind i.origin i.loc (stripped_items (j ∷ is)) (closes_stripped (j ∷ is) h)

last_stripped : (blocks : List Block) → LastCloses blocks → LastCloses (stripped_blocks blocks)
last_stripped [] h = h
last_stripped (b ∷ []) h = closes_stripped b.items h
last_stripped (b ∷ c ∷ bs) h = last_stripped (c ∷ bs) h

pub stripped_sound : (f : Function) → IsSound f → IsSound (stripped f)
stripped_sound f s =
    let same = sym (ids_of-stripped f.blocks) in
    record {
      blocks_apart = subst (λ (ns : List ℕ). AreApart ns) same s.blocks_apart;
      slots_apart = s.slots_apart;
      objects_apart = s.objects_apart;
      few_blocks = rw length-stripped s.few_blocks;
      few_slots = s.few_slots;
      each_object = s.each_object;
      objects_laid = s.objects_laid;
      targets = subst (λ (ns : List ℕ). AllItems (λ i. TargetsIn ns i.kind) (stripped_blocks f.blocks)) same
          (items_stripped (λ i. TargetsIn (ids_of f.blocks) i.kind) (λ i. TargetsIn (ids_of f.blocks) i.kind) (λ i k o l h. h) f.blocks s.targets);
      slots = items_stripped (λ i. SlotsIn f.slots i.kind) (λ i. SlotsIn f.slots i.kind) (λ i k o l h. h) f.blocks s.slots;
      passed = items_stripped (λ i. KindPassesFirst f.slots i.kind) (λ i. KindPassesFirst f.slots i.kind) (λ i k o l h. h) f.blocks s.passed;
      objects = items_stripped (λ i. ObjectsIn f.objects i.kind) (λ i. ObjectsIn f.objects i.kind) (λ i k o l h. h) f.blocks s.objects;
      pointer = items_stripped (λ i. LeavesPointer i.kind) (λ i. LeavesPointer i.kind) (λ i k o l h. h) f.blocks s.pointer;
      numbers = once_stripped f.blocks;
      origins = blocks_stripped (λ b. All (λ i. OriginIn b i.origin) b.items) (λ b. All (λ i. OriginIn b i.origin) b.items)
          (λ b a. all_stripped (λ i. OriginIn b i.origin) (λ i. OriginIn (stripped_block b) i.origin)
          (λ i k o l h. origin_stripped b o h) b.items a) f.blocks s.origins;
      ends = blocks_stripped (λ b. EndsWell b.items) (λ b. EndsWell b.items) (λ b e. ends_stripped b.items e) f.blocks s.ends;
      last = last_stripped f.blocks s.last;
    }
