-- What the checks of parts say of a function.
use Rattle.std.proofs.Common.{◌≡◌, ◌↔◌, ℕ, zero, suc, ◌+◌, ◌-◌, ◌<◌, ◌≤◌, Bool, true, false, List, [], ◌∷◌, ◌++◌, length, get_or, Some, IsTrue, refl, sym}
use Rattle.std.proofs.Common.{ap, subst, ◌∙◌, arith}
use Rattle.std.specs.Prelude.{All, Contains}
use Rattle.std.specs.Bool.{MatchBool}
use Rattle.std.specs.List.{slice_get, AllWithin, HoldsAt}
use Rattle.std.proofs.lemmas.Bool.{false≢true}
use Rattle.std.proofs.lemmas.List.Elements.{All-nil, All-cons, All-head, All-tail, All-append, All-from_all_within, All-weaker}
use Rattle.mir_func.specs.declared.block.Block.{Block}
use Rattle.mir_func.specs.declared.item.Item.{Item}
use Rattle.mir_func.specs.declared.item.ItemKind.{ItemKind}
use Rattle.mir_func.specs.declared.item.ItemKind.TheVariants.{Code, Mark, Phi}
use Rattle.mir_func.specs.Sound.{ids_of, items_of, AllItems, TargetsIn, SlotsIn, KindPassesFirst, ObjectsIn, LeavesPointer, OriginIn}
use Rattle.mir_func.specs.Sound.{EndsWell, Closes, LastCloses, IsSound}
use Rattle.mir_func.specs.Exits.{exit_of, Leaves}
use Rattle.mir_func.specs.declared.object.Object.{Object}
use Rattle.mir_func.specs.declared.sound.Declared.{Declared}
use Rattle.mir_func.specs.Function.{Function}
use Rattle.mir_func.specs.Limits.{MAX_BLOCKS, MAX_SLOTS}
use Rattle.mir_func.specs.steps.Checks.{PhiIsApart, IsSoundItem, IsSoundBlock, AreSoundParts, AreSoundObjects}
use Rattle.mir_func.proofs.Once.{codes_of, IsCode, PhiOff, codes_apart, phis_off, once_from}

-- what `all` answers, both ways
pub both_from_all : {X : Type 0} (P : X → Type 0) (xs : List X) (r : Bool) →
    MatchBool r (AllWithin P xs 0 (length xs)) ((k : ℕ) × (k < length xs) × HoldsAt (λ x. P x → ⊥) xs k) → IsTrue r ↔ All P xs
both_from_all P xs true h = (λ _. All-from_all_within P xs h, λ _. refl)
both_from_all {X} P [] false h = let l : h.0 < 0 = h.1 in absurd (omega arith)
both_from_all P (x ∷ xs) false h = (λ e. absurd (false≢true e), λ a. absurd (h.2 x (a h.0 x h.1)))

-- ---- the end

closes_at : (items : List Item) (n : ℕ) (i : Item) → length items ≡ suc n → slice_get items n ≡ Some i → Leaves (exit_of i.kind) ↔ Closes items
closes_at [] n i l e = absurd (omega arith)
closes_at (x ∷ []) zero i l e = let same : x ≡ i = cc in subst (λ (y : Item). Leaves (exit_of y.kind) ↔ Closes (x ∷ [])) same (λ h. h, λ h. h)
closes_at (x ∷ []) (suc n) i l e = absurd cc
closes_at (x ∷ y ∷ rest) zero i l e = absurd (omega arith)
closes_at (x ∷ y ∷ rest) (suc n) i l e = closes_at (y ∷ rest) n i (omega arith) e

pub closes_by : (items : List Item) (i : Item) → slice_get items (length items - 1) ≡ Some i → Leaves (exit_of i.kind) ↔ Closes items
closes_by [] i e = absurd cc
closes_by (x ∷ xs) i e =
    let k : length (x ∷ xs) - 1 ≡ length xs = omega arith in
    closes_at (x ∷ xs) (length xs) i refl (ap (slice_get (x ∷ xs)) (sym k) ∙ e)

last_at : (blocks : List Block) (n : ℕ) (b : Block) → length blocks ≡ suc n → slice_get blocks n ≡ Some b → Closes b.items ↔ LastCloses blocks
last_at [] n b l e = absurd (omega arith)
last_at (x ∷ []) zero b l e = let same : x ≡ b = cc in subst (λ (y : Block). Closes y.items ↔ LastCloses (x ∷ [])) same (λ h. h, λ h. h)
last_at (x ∷ []) (suc n) b l e = absurd cc
last_at (x ∷ y ∷ rest) zero b l e = absurd (omega arith)
last_at (x ∷ y ∷ rest) (suc n) b l e = last_at (y ∷ rest) n b (omega arith) e

pub last_by : (blocks : List Block) (b : Block) → slice_get blocks (length blocks - 1) ≡ Some b → Closes b.items ↔ LastCloses blocks
last_by [] b e = absurd cc
last_by (x ∷ xs) b e =
    let k : length (x ∷ xs) - 1 ≡ length xs = omega arith in
    last_at (x ∷ xs) (length xs) b refl (ap (slice_get (x ∷ xs)) (sym k) ∙ e)

-- ---- all items of blocks

pub at_get : {X : Type 0} (P : X → Type 0) (xs : List X) (i : ℕ) (x : X) → All P xs → slice_get xs i ≡ Some x → P x
at_get P [] i x h e = absurd cc
at_get P (y ∷ ys) zero x h e = let same : y ≡ x = cc in subst P same (All-head P y ys h)
at_get P (y ∷ ys) (suc i) x h e = at_get P ys i x (All-tail P y ys h) e

from_get : {X : Type 0} (P : X → Type 0) (xs : List X) → ((i : ℕ) (x : X) → slice_get xs i ≡ Some x → P x) → All P xs
from_get P [] h = All-nil P
from_get P (y ∷ ys) h = All-cons P y ys (h zero y refl) (from_get P ys (λ i x e. h (suc i) x e))

all_items : (P : Item → Type 0) (blocks : List Block) → AllItems P blocks → All P (items_of blocks)
all_items P [] h = All-nil P
all_items P (b ∷ bs) h =
    All-append P b.items (items_of bs) (All-head (λ (x : Block). All P x.items) b bs h) (all_items P bs (All-tail (λ (x : Block). All P x.items) b bs h))

slice_get-left : {X : Type 0} (xs ys : List X) (i : ℕ) (x : X) → slice_get xs i ≡ Some x → slice_get (xs ++ ys) i ≡ Some x
slice_get-left [] ys i x e = absurd cc
slice_get-left (y ∷ xs) ys zero x e = e
slice_get-left (y ∷ xs) ys (suc i) x e = slice_get-left xs ys i x e

slice_get-right : {X : Type 0} (xs ys : List X) (i : ℕ) (x : X) → slice_get ys i ≡ Some x → (j : ℕ) × (slice_get (xs ++ ys) j ≡ Some x)
slice_get-right [] ys i x e = (i, e)
slice_get-right (y ∷ xs) ys i x e = let r = slice_get-right xs ys i x e in (suc r.0, r.1)

items_all : (P : Item → Type 0) (blocks : List Block) → All P (items_of blocks) → AllItems P blocks
items_all P [] h = All-nil (λ (x : Block). All P x.items)
items_all P (b ∷ bs) h =
    All-cons (λ (x : Block). All P x.items) b bs
    (from_get P b.items (λ i x e. at_get P (items_of (b ∷ bs)) i x h (slice_get-left b.items (items_of bs) i x e)))
    (items_all P bs (from_get P (items_of bs) (λ i x e. let r = slice_get-right b.items (items_of bs) i x e in at_get P (items_of (b ∷ bs)) r.0 x h r.1)))

-- ---- numbers of code

contains_from : (ns : List ℕ) (j n : ℕ) → slice_get ns j ≡ Some n → Contains ns n
contains_from [] j n e = absurd cc
contains_from (m ∷ ns) zero n e = (zero, omega arith, cc)
contains_from (m ∷ ns) (suc j) n e = let r = contains_from ns j n e in (suc r.0, let l : r.0 < length ns = r.1 in omega arith, r.2)

contains_at : (ns : List ℕ) (k n : ℕ) → k < length ns → get_or ns k n ≡ n → slice_get ns k ≡ Some n
contains_at [] k n l e = absurd (omega arith)
contains_at (m ∷ ns) zero n l e = ap (λ (x : ℕ). Some x) e
contains_at (m ∷ ns) (suc k) n l e = contains_at ns k n (omega arith) e

apart_off : (items : List Item) (k : ItemKind) → PhiIsApart (codes_of items) k → PhiOff (IsCode items) k
apart_off items (Code i k) h = tt
apart_off items (Mark v m) h = tt
apart_off items (Phi p k) h = λ c. h (contains_from (codes_of items) c.0 k c.1)

off_apart : (items : List Item) (k : ItemKind) → PhiOff (IsCode items) k → PhiIsApart (codes_of items) k
off_apart items (Code i k) h = tt
off_apart items (Mark v m) h = tt
off_apart items (Phi p k) h = λ c. h (c.0, contains_at (codes_of items) c.0 k c.1 c.2)

-- ---- the whole

-- what a function of these parts declares
abbrev pub declared_of : (slots : List ℕ) → List Object → List Block → Declared
declared_of slots objects blocks = record { blocks = ids_of blocks; slots = slots; objects = objects; codes = codes_of (items_of blocks) }

-- one thing that each item keeps, from all that it keeps
each_item : (d : Declared) (P : Block → Item → Type 0) (blocks : List Block) → All (IsSoundBlock d) blocks →
    ((b : Block) (i : Item) → IsSoundItem d b i → P b i) → All (λ b. All (P b) b.items) blocks
each_item d P blocks h part =
    All-weaker (IsSoundBlock d) (λ (b : Block). All (P b) b.items) (λ b s. All-weaker (IsSoundItem d b) (P b) (part b) b.items s.each) blocks h

sound_from : (name slots : List ℕ) (objects : List Object) (blocks : List Block) → length blocks ≤ MAX_BLOCKS → length slots + length objects ≤ MAX_SLOTS →
    AreSoundObjects objects → AreSoundParts (declared_of slots objects blocks) blocks →
    IsSound (record { name = name; slots = slots; objects = objects; blocks = blocks })
sound_from name slots objects blocks few_b few_s o s =
    let d = declared_of slots objects blocks in
    let ids = ids_of blocks in
    let codes = codes_of (items_of blocks) in
    let phis : All (λ i. PhiIsApart codes i.kind) (items_of blocks) =
    all_items (λ i. PhiIsApart codes i.kind) blocks (each_item d (λ b i. PhiIsApart codes i.kind) blocks s.each (λ b i t. t.phi)) in
    record {
      blocks_apart = s.ids_apart;
      slots_apart = s.slots_apart;
      objects_apart = o.apart;
      few_blocks = few_b;
      few_slots = few_s;
      each_object = o.each;
      objects_laid = o.laid;
      targets = each_item d (λ b i. TargetsIn ids i.kind) blocks s.each (λ b i t. t.target);
      slots = each_item d (λ b i. SlotsIn slots i.kind) blocks s.each (λ b i t. t.slot);
      passed = each_item d (λ b i. KindPassesFirst slots i.kind) blocks s.each (λ b i t. t.passed);
      objects = each_item d (λ b i. ObjectsIn objects i.kind) blocks s.each (λ b i t. t.object);
      pointer = each_item d (λ b i. LeavesPointer i.kind) blocks s.each (λ b i t. t.pointer);
      numbers = once_from (items_of blocks) s.codes_apart
          (λ i x e. apart_off (items_of blocks) x.kind (at_get (λ i. PhiIsApart codes i.kind) (items_of blocks) i x phis e));
      origins = each_item d (λ b i. OriginIn b i.origin) blocks s.each (λ b i t. t.origin);
      ends = All-weaker (IsSoundBlock d) (λ (b : Block). EndsWell b.items) (λ b t. t.ends) blocks s.each;
      last = s.last;
    }

pub objects_from : (f : Function) → IsSound f → AreSoundObjects f.objects
objects_from f s = record { apart = s.objects_apart; each = s.each_object; laid = s.objects_laid }

parts_from : (f : Function) → IsSound f → AreSoundParts (declared_of f.slots f.objects f.blocks) f.blocks
parts_from f s =
    let items = items_of f.blocks in
    let codes = codes_of items in
    let phis : AllItems (λ i. PhiIsApart codes i.kind) f.blocks =
    items_all (λ i. PhiIsApart codes i.kind) f.blocks
    (from_get (λ i. PhiIsApart codes i.kind) items (λ i x e. off_apart items x.kind (phis_off items s.numbers i x e))) in
    record {
      ids_apart = s.blocks_apart;
      slots_apart = s.slots_apart;
      codes_apart = codes_apart items s.numbers;
      each = λ k d l. record {
        each = λ n x m. record {
          target = s.targets k d l n x m;
          slot = s.slots k d l n x m;
          passed = s.passed k d l n x m;
          object = s.objects k d l n x m;
          pointer = s.pointer k d l n x m;
          phi = phis k d l n x m;
          origin = s.origins k d l n x m;
        };
        ends = s.ends k d l;
      };
      last = s.last;
    }

-- where the counts and the objects are right, the function is sound exactly where its parts are
pub sound_by_parts : (d : Declared) (slots : List ℕ) (objects : List Object) (blocks : List Block) (b : Bool) → length blocks ≤ MAX_BLOCKS →
    length slots + length objects ≤ MAX_SLOTS → AreSoundObjects objects → d ≡ declared_of slots objects blocks → IsTrue b ↔ AreSoundParts d blocks →
    (name : List ℕ) → IsTrue b ↔ IsSound (record { name = name; slots = slots; objects = objects; blocks = blocks })
sound_by_parts d slots objects blocks b few_b few_s o same both name =
    let here : IsTrue b ↔ AreSoundParts (declared_of slots objects blocks) blocks = subst (λ (e : Declared). IsTrue b ↔ AreSoundParts e blocks) same both in (
      λ t. sound_from name slots objects blocks few_b few_s o (here.0 t),
      λ s. here.1
          (parts_from (record { name = name; slots = slots; objects = objects; blocks = blocks }) s),
    )
