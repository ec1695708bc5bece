-- What a body keeps while its lines are read: its blocks are as they are read, and each of its items keeps what every item keeps that was judged.
use Rattle.std.proofs.Common.{◌≡◌, ℕ, ◌+◌, ◌≤◌, Bool, true, false, cond, ltb, leb, List, [], ◌∷◌, ◌++◌, length, All, Option, Some, None}
use Rattle.std.proofs.Common.{Ok, refl, sym}
use Rattle.std.proofs.Common.{ap, subst, ◌∙◌, inl, inr, arith}
use Rattle.std.proofs.lemmas.List.{map-append, length-append, append-nil, append_assoc}
use Rattle.std.specs.List.{slice_get}
use Rattle.std.specs.Prelude.{option_map}
use Rattle.std.proofs.lemmas.Bool.{or_parts, ltb-false, leb-false, false≢true}
use Rattle.std.proofs.lemmas.List.Elements.{All-nil, All-push, All-same}
use Rattle.std.proofs.lemmas.List.Concat.{flat_map-append}
use Rattle.read_refusal.specs.declared.kind.RefusalKind.{RefusalKind}
use Rattle.read_refusal.specs.declared.kind.RefusalKind.TheVariants as kinds
use Rattle.mir_func.specs.declared.block.Block.{Block}
use Rattle.mir_func.specs.declared.item.Item.{Item}
use Rattle.mir_func.specs.declared.item.ItemKind.{ItemKind}
use Rattle.mir_func.specs.declared.item.ItemKind.TheVariants.{Code, Mark, Phi}
use Rattle.mir_func.specs.declared.location.Loc.{Loc}
use Rattle.mir_func.specs.declared.position.Origin.TheVariants.{Kept}
use Rattle.mir_func.specs.Sound.{AreApart, ids_of, items_of, number_of, code_number, NumbersOnce}
use Rattle.mir_func.specs.Limits.{MAX_BLOCKS}
use Rattle.read_line.specs.declared.form.BodyLine.TheVariants as lines
use Rattle.read_item.specs.declared.judged.Judged.TheVariants as judged_as
use Rattle.read_body.specs.declared.body.Body.{Body}
use Rattle.read_body.specs.Limits.{MAX_ITEMS}
use Rattle.read_body.specs.FirstUseOrder.{is_met, met}
use Rattle.read_body.specs.Body.{nothing_read, and_last, blocks_of, label_cause, with_label, with_closed, repeats, block_with, constant_of, object_named}
use Rattle.read_body.specs.Body.{with_number, with_constant}
use Rattle.read_body.specs.Body.{with_object, with_variable, with_facts, with_item, exceeds, item_cause}
use Rattle.read_program.specs.BodyLines.{unless}
use Rattle.read_program.proofs.Lists.{push_read, apart_push, met_keeps, met_has, met_at, met_new, All-front, All-last}

-- ---- what is met in an item leaves the blocks as they are

pub record SameBlocks (a b : Body) : Type 0 where
  pub before : a.before ≡ b.before
  pub last : a.last ≡ b.last
  pub entries : a.entries ≡ b.entries
  pub items : a.items ≡ b.items
  pub ids : a.ids ≡ b.ids

same_blocks : (a : Body) → SameBlocks a a
same_blocks a = record { before = refl; last = refl; entries = refl; items = refl; ids = refl }

joined_blocks : (a b c : Body) → SameBlocks a b → SameBlocks b c → SameBlocks a c
joined_blocks a b c s t = record {
  before = s.before ∙ t.before;
  last = s.last ∙ t.last;
  entries = s.entries ∙ t.entries;
  items = s.items ∙ t.items;
  ids = s.ids ∙ t.ids;
}

number_apart : (body : Body) (kind : ItemKind) → SameBlocks (with_number body kind) body
number_apart body (Code i None) = same_blocks body
number_apart body (Code i (Some k)) = record { before = refl; last = refl; entries = refl; items = refl; ids = refl }
number_apart body (Mark v m) = same_blocks body
number_apart body (Phi p k) = record { before = refl; last = refl; entries = refl; items = refl; ids = refl }

constant_apart : (body : Body) (n : Option ℕ) → SameBlocks (with_constant body n) body
constant_apart body None = same_blocks body
constant_apart body (Some n) = record { before = refl; last = refl; entries = refl; items = refl; ids = refl }

object_apart : (body : Body) (n : Option ℕ) → SameBlocks (with_object body n) body
object_apart body None = same_blocks body
object_apart body (Some n) = record { before = refl; last = refl; entries = refl; items = refl; ids = refl }

variable_apart : (body : Body) (kind : ItemKind) → SameBlocks (with_variable body kind) body
variable_apart body (Code i k) = same_blocks body
variable_apart body (Mark v m) = record { before = refl; last = refl; entries = refl; items = refl; ids = refl }
variable_apart body (Phi p k) = same_blocks body

pub facts_apart : (body : Body) (kind : ItemKind) → SameBlocks (with_facts body kind) body
facts_apart body kind =
    let a = with_number body kind in
    let b = with_constant a (constant_of kind) in
    let c = with_object b (object_named kind) in
    joined_blocks (with_facts body kind) c body (variable_apart c kind)
    (joined_blocks c b body (object_apart b (object_named kind)) (joined_blocks b a body (constant_apart a (constant_of kind)) (number_apart body kind)))

-- ---- the debug instruction numbers of items

same_codes : (body : Body) (kind : ItemKind) → (with_facts body kind).codes ≡ (with_number body kind).codes
same_codes body kind = variable kind ∙ object (object_named kind) ∙ constant (constant_of kind) where
  constant : (n : Option ℕ) → (with_constant (with_number body kind) n).codes ≡ (with_number body kind).codes
  constant None = refl
  constant (Some n) = refl

  object : (n : Option ℕ) → (with_object (with_constant (with_number body kind) (constant_of kind)) n).codes ≡
      (with_constant (with_number body kind) (constant_of kind)).codes
  object None = refl
  object (Some n) = refl

  variable : (k : ItemKind) → (with_variable (with_object (with_constant (with_number body kind) (constant_of kind)) (object_named kind)) k).codes ≡
      (with_object (with_constant (with_number body kind) (constant_of kind)) (object_named kind)).codes
  variable (Code i k) = refl
  variable (Mark v m) = refl
  variable (Phi p k) = refl

same_numbers : (body : Body) (kind : ItemKind) → (with_facts body kind).numbers ≡ (with_number body kind).numbers
same_numbers body kind = variable kind ∙ object (object_named kind) ∙ constant (constant_of kind) where
  constant : (n : Option ℕ) → (with_constant (with_number body kind) n).numbers ≡ (with_number body kind).numbers
  constant None = refl
  constant (Some n) = refl

  object : (n : Option ℕ) → (with_object (with_constant (with_number body kind) (constant_of kind)) n).numbers ≡
      (with_constant (with_number body kind) (constant_of kind)).numbers
  object None = refl
  object (Some n) = refl

  variable : (k : ItemKind) → (with_variable (with_object (with_constant (with_number body kind) (constant_of kind)) (object_named kind)) k).numbers ≡
      (with_object (with_constant (with_number body kind) (constant_of kind)) (object_named kind)).numbers
  variable (Code i k) = refl
  variable (Mark v m) = refl
  variable (Phi p k) = refl

codes_keep : (body : Body) (kind : ItemKind) (k : ℕ) → is_met k body.codes ≡ true → is_met k (with_number body kind).codes ≡ true
codes_keep body (Code i None) k is = is
codes_keep body (Code i (Some n)) k is = met_keeps k n body.codes is
codes_keep body (Mark v m) k is = is
codes_keep body (Phi p n) k is = is

pub numbers_keep : (body : Body) (kind : ItemKind) (k : ℕ) → is_met k body.numbers ≡ true → is_met k (with_number body kind).numbers ≡ true
numbers_keep body (Code i None) k is = is
numbers_keep body (Code i (Some n)) k is = met_keeps k n body.numbers is
numbers_keep body (Mark v m) k is = is
numbers_keep body (Phi p n) k is = met_keeps k n body.numbers is

met_same : (k n : ℕ) (ns : List ℕ) → n ≡ k → is_met k (met n ns) ≡ true
met_same k n ns same = subst (λ (x : ℕ). is_met k (met x ns) ≡ true) (sym same) (met_has k ns)

codes_have : (body : Body) (kind : ItemKind) (k : ℕ) → code_number kind ≡ Some k → is_met k (with_number body kind).codes ≡ true
codes_have body (Code i None) k e = absurd cc
codes_have body (Code i (Some n)) k e = met_same k n body.codes cc
codes_have body (Mark v m) k e = absurd cc
codes_have body (Phi p n) k e = absurd cc

numbers_have : (body : Body) (kind : ItemKind) (k : ℕ) → number_of kind ≡ Some k → is_met k (with_number body kind).numbers ≡ true
numbers_have body (Code i None) k e = absurd cc
numbers_have body (Code i (Some n)) k e = met_same k n body.numbers cc
numbers_have body (Mark v m) k e = absurd cc
numbers_have body (Phi p n) k e = met_same k n body.numbers cc

code_is_number : (kind : ItemKind) (k : ℕ) → code_number kind ≡ Some k → number_of kind ≡ Some k
code_is_number (Code i n) k e = e
code_is_number (Mark v m) k e = absurd cc
code_is_number (Phi p n) k e = absurd cc

-- the number of an item that doesn't repeat one
code_is_new : (body : Body) (kind : ItemKind) (k : ℕ) → repeats body kind ≡ false → code_number kind ≡ Some k → is_met k body.numbers ≡ true → ⊥
code_is_new body (Code i None) k fresh e is = cc
code_is_new body (Code i (Some n)) k fresh e is = let same : n ≡ k = cc in false≢true (sym fresh ∙ ap (λ (x : ℕ). is_met x body.numbers) same ∙ is)
code_is_new body (Mark v m) k fresh e is = cc
code_is_new body (Phi p n) k fresh e is = cc

number_is_new : (body : Body) (kind : ItemKind) (k : ℕ) → repeats body kind ≡ false → number_of kind ≡ Some k → is_met k body.codes ≡ true →
    is_met k body.numbers ≡ true → ⊥
number_is_new body (Code i None) k fresh e code is = cc
number_is_new body (Code i (Some n)) k fresh e code is = let same : n ≡ k = cc in false≢true (sym fresh ∙ ap (λ (x : ℕ). is_met x body.numbers) same ∙ is)
number_is_new body (Mark v m) k fresh e code is = cc
number_is_new body (Phi p n) k fresh e code is = let same : n ≡ k = cc in false≢true (sym fresh ∙ ap (λ (x : ℕ). is_met x body.codes) same ∙ code)

-- numbers that stand once, and an item with a number of its own
once_push : (xs : List Item) (x : Item) →
    ((j : ℕ) (y : Item) (k : ℕ) → slice_get xs j ≡ Some y → code_number x.kind ≡ Some k → number_of y.kind ≡ Some k → ⊥) →
    ((j : ℕ) (y : Item) (k : ℕ) → slice_get xs j ≡ Some y → code_number y.kind ≡ Some k → number_of x.kind ≡ Some k → ⊥) →
    NumbersOnce xs → NumbersOnce (xs ++ x ∷ [])
once_push xs x code number once i j a b k ea ca eb nb =
    elim (push_read xs x i a ea) [
      | inl old ↦ elim (push_read xs x j b eb) [
        | inl other ↦ once i j a b k old ca other nb
        | inr last ↦ absurd (number i a k old ca (ap (λ (y : Item). number_of y.kind) last.1 ∙ nb))
      ]
      | inr now ↦ elim (push_read xs x j b eb) [
        | inl other ↦ absurd (code j b k other (ap (λ (y : Item). code_number y.kind) now.1 ∙ ca) nb)
        | inr last ↦ now.0 ∙ sym last.0
      ]
    ]

-- no cause of two
no_cause : (a b : Bool) (x y : RefusalKind) → cond a (Some x) (cond b (Some y) None) ≡ None → (a ≡ false) × (b ≡ false)
no_cause true b x y e = absurd cc
no_cause false true x y e = absurd cc
no_cause false false x y e = (refl, refl)

-- nothing is refused
pub unless_ok : (cause : Option RefusalKind) (body next : Body) → unless cause body ≡ Ok next → (cause ≡ None) × (body ≡ next)
unless_ok None body next e = (refl, cc)
unless_ok (Some kind) body next e = absurd cc

-- ---- what a body keeps

-- a block as it is read, whose items keep what every item keeps that was judged
pub record IsReadBlock (P : ItemKind → Loc → Type 0) (b : Block) : Type 0 where
  pub items : (k : ℕ) (i : Item) → slice_get b.items k ≡ Some i → i.origin ≡ Kept (record { block = b.id; item = k })
  pub source_end : b.source_end ≡ length b.items
  pub each : All (λ i. P i.kind i.loc) b.items

pub record IsReadBody (P : ItemKind → Loc → Type 0) (body : Body) : Type 0 where
  pub blocks : All (IsReadBlock P) (blocks_of body)
  pub ids : body.ids ≡ ids_of (blocks_of body)
  pub apart : AreApart (ids_of (blocks_of body))
  pub few_blocks : length body.ids ≤ MAX_BLOCKS
  pub counted : length (items_of (blocks_of body)) ≤ body.items
  pub few : body.items ≤ MAX_ITEMS
  pub codes : (i : ℕ) (x : Item) (k : ℕ) → slice_get (items_of (blocks_of body)) i ≡ Some x → code_number x.kind ≡ Some k → is_met k body.codes ≡ true
  pub numbers : (i : ℕ) (x : Item) (k : ℕ) → slice_get (items_of (blocks_of body)) i ≡ Some x → number_of x.kind ≡ Some k → is_met k body.numbers ≡ true
  pub once : NumbersOnce (items_of (blocks_of body))

module _ (P : ItemKind → Loc → Type 0) where
  pub nothing_is_read : IsReadBody P nothing_read
  nothing_is_read = record {
    blocks = All-nil (IsReadBlock P);
    ids = refl;
    apart = λ i j n e f. absurd cc;
    few_blocks = omega arith;
    counted = omega arith;
    few = omega arith;
    codes = λ i x k e f. absurd cc;
    numbers = λ i x k e f. absurd cc;
    once = λ i j x y k e f g h. absurd cc;
  }

  -- a block with one item more
  block_more : (b : Block) (kind : ItemKind) (loc : Loc) → P kind loc → IsReadBlock P b → IsReadBlock P (block_with kind loc b)
  block_more b kind loc p is = record {
    items = λ k i e. elim (push_read b.items item k i e) [
      | inl h ↦ is.items k i h
      | inr h ↦ ap (λ (x : Item). x.origin) (sym h.1) ∙ ap (λ (n : ℕ). Kept (record { block = b.id; item = n })) (is.source_end ∙ sym h.0)
    ];
    source_end = ap (λ (n : ℕ). n + 1) is.source_end ∙ sym (length-append b.items (item ∷ []));
    each = All-push (λ i. P i.kind i.loc) b.items item is.each p;
  } where
    item : Item
    item = record { kind = kind; origin = Kept (record { block = b.id; item = b.source_end }); loc = loc }

  ids_push : (bs : List Block) (b : Block) → ids_of (bs ++ b ∷ []) ≡ ids_of bs ++ b.id ∷ []
  ids_push bs b = map-append (λ (x : Block). x.id) bs (b ∷ [])

  items_push : (bs : List Block) (b : Block) → length (items_of (bs ++ b ∷ [])) ≡ length (items_of bs) + length b.items
  items_push bs b =
      let flat : items_of (bs ++ b ∷ []) ≡ items_of bs ++ (b.items ++ []) = flat_map-append (λ (x : Block). x.items) bs (b ∷ []) in
      omega (arith, ap length flat, length-append (items_of bs) (b.items ++ []), ap length (append-nil b.items))

  -- a label
  pub label_reads : (body : Body) (n : ℕ) → label_cause body n ≡ None → IsReadBody P body → IsReadBody P (with_label body n)
  label_reads body n none is = record {
    blocks = All-push (IsReadBlock P) (blocks_of body) block is.blocks (record {
      items = λ k i e. absurd cc;
      source_end = refl;
      each = All-nil
          (λ i. P i.kind i.loc);
    });
    ids = met_new n body.ids unmet ∙ ap (λ (l : List ℕ). l ++ n ∷ []) is.ids ∙ sym (ids_push (blocks_of body) block);
    apart = subst AreApart (sym (ids_push (blocks_of body) block)) (apart_push (ids_of (blocks_of body)) n
        (λ i e. false≢true (sym unmet ∙ ap (is_met n) is.ids ∙ met_at (ids_of (blocks_of body)) i n e)) is.apart);
    few_blocks = omega (arith, ap length (met_new n body.ids unmet), length-append body.ids (n ∷ []), leb-false MAX_BLOCKS (length body.ids) room);
    counted = omega (arith, items_push (blocks_of body) block, is.counted);
    few = is.few;
    codes = λ i x k e f. is.codes i x k (ap (λ (l : List Item). slice_get l i) (sym same_items) ∙ e) f;
    numbers = λ i x k e f. is.numbers i x k (ap (λ (l : List Item). slice_get l i) (sym same_items) ∙ e) f;
    once = subst NumbersOnce (sym same_items) is.once;
  } where
    block : Block
    block = record { id = n; items = []; source_end = 0 }

    same_items : items_of (blocks_of body ++ block ∷ []) ≡ items_of (blocks_of body)
    same_items = flat_map-append (λ (x : Block). x.items) (blocks_of body) (block ∷ []) ∙ append-nil (items_of (blocks_of body))

    room : leb MAX_BLOCKS (length body.ids) ≡ false
    room = (no_cause (is_met n body.ids) (leb MAX_BLOCKS (length body.ids)) kinds.DuplicateBlock kinds.TooMany none).1

    unmet : is_met n body.ids ≡ false
    unmet = (no_cause (is_met n body.ids) (leb MAX_BLOCKS (length body.ids)) kinds.DuplicateBlock kinds.TooMany none).0

  -- control doesn't leave the last block
  pub closed_reads : (body : Body) (last : Option Block) → IsReadBody P body → IsReadBody P (with_closed body last)
  closed_reads body None is = is
  closed_reads body (Some b) is = record {
    blocks = is.blocks;
    ids = is.ids;
    apart = is.apart;
    few_blocks = is.few_blocks;
    counted = is.counted;
    few = is.few;
    codes = is.codes;
    numbers = is.numbers;
    once = is.once;
  }

  -- the last block has one item more
  last_more : (body : Body) (b : Block) (kind : ItemKind) (loc : Loc) (entries : List ℕ) → body.last ≡ Some b →
      blocks_of (with_item body kind loc entries) ≡ body.before ++ block_with kind loc b ∷ []
  last_more body b kind loc entries last =
      let same = facts_apart body kind in
      ap (λ (o : Option Block). and_last (with_facts body kind).before (option_map (block_with kind loc) o)) (same.last ∙ last)
      ∙ ap (λ (bs : List Block). bs ++ block_with kind loc b ∷ []) same.before

  -- an item
  pub item_reads : (body : Body) (b : Block) (kind : ItemKind) (loc : Loc) (entries : List ℕ) → body.last ≡ Some b → P kind loc →
      item_cause body kind loc entries ≡ None → IsReadBody P body → IsReadBody P (with_item body kind loc entries)
  item_reads body b kind loc entries last p none is = record {
    blocks = All-same (IsReadBlock P) (blocks_of next) (body.before ++ more ∷ []) now
        (All-push (IsReadBlock P) body.before more (All-front (IsReadBlock P) body.before (b ∷ []) was_blocks)
        (block_more b kind loc p (All-last (IsReadBlock P) body.before b was_blocks)));
    ids = same.ids ∙ is.ids ∙ sym ids;
    apart = subst AreApart (sym ids) is.apart;
    few_blocks = subst (λ (l : List ℕ). length l ≤ MAX_BLOCKS) (sym same.ids) is.few_blocks;
    counted = omega (
      arith,
      ap (λ (bs : List Block). length (items_of bs)) now,
      items_push body.before more,
      ap (λ (bs : List Block). length (items_of bs)) was,
      items_push body.before b,
      length-append b.items (item ∷ []),
      is.counted,
      same.items,
    );
    few = ltb-false MAX_ITEMS next.items (or_parts (ltb MAX_ITEMS next.items) _ within).0;
    codes = λ i x k e f. elim (push_read (items_of (blocks_of body)) item i x (ap (λ (l : List Item). slice_get l i) (sym all) ∙ e)) [
      | inl h ↦ ap (is_met k) (same_codes body kind) ∙ codes_keep body kind k (is.codes i x k h f)
      | inr h ↦ ap (is_met k) (same_codes body kind) ∙ codes_have body kind k (ap (λ (y : Item). code_number y.kind) h.1 ∙ f)
    ];
    numbers = λ i x k e f. elim (push_read (items_of (blocks_of body)) item i x (ap (λ (l : List Item). slice_get l i) (sym all) ∙ e)) [
      | inl h ↦ ap (is_met k) (same_numbers body kind) ∙ numbers_keep body kind k (is.numbers i x k h f)
      | inr h ↦ ap (is_met k) (same_numbers body kind) ∙ numbers_have body kind k (ap (λ (y : Item). number_of y.kind) h.1 ∙ f)
    ];
    once = subst NumbersOnce (sym all) (once_push (items_of (blocks_of body)) item
        (λ j y k e c f. code_is_new body kind k fresh c (is.numbers j y k e f))
        (λ j y k e c f. number_is_new body kind k fresh f (is.codes j y k e c) (is.numbers j y k e (code_is_number y.kind k c))) is.once);
  } where
    next : Body
    next = with_item body kind loc entries

    more : Block
    more = block_with kind loc b

    item : Item
    item = record { kind = kind; origin = Kept (record { block = b.id; item = b.source_end }); loc = loc }

    same : SameBlocks (with_facts body kind) body
    same = facts_apart body kind

    was : blocks_of body ≡ body.before ++ b ∷ []
    was = ap (and_last body.before) last

    was_blocks : All (IsReadBlock P) (body.before ++ b ∷ [])
    was_blocks = All-same (IsReadBlock P) (body.before ++ b ∷ []) (blocks_of body) (sym was) is.blocks

    now : blocks_of next ≡ body.before ++ more ∷ []
    now = last_more body b kind loc entries last

    ids : ids_of (blocks_of next) ≡ ids_of (blocks_of body)
    ids = ap ids_of now ∙ ids_push body.before more ∙ sym (ids_push body.before b) ∙ sym (ap ids_of was)

    fresh : repeats body kind ≡ false
    fresh = (no_cause (repeats body kind) (exceeds next) kinds.DuplicateNumber kinds.TooMany none).0

    all : items_of (blocks_of next) ≡ items_of (blocks_of body) ++ item ∷ []
    all =
        ap items_of now ∙ flat_map-append (λ (x : Block). x.items) body.before (more ∷ [])
        ∙ ap (λ (l : List Item). items_of body.before ++ l) (append-nil (b.items ++ item ∷ []))
        ∙ sym (append_assoc (items_of body.before) b.items (item ∷ []))
        ∙ ap (λ (l : List Item). l ++ item ∷ []) (sym (ap items_of was ∙ flat_map-append (λ (x : Block). x.items) body.before (b ∷ [])
        ∙ ap (λ (l : List Item). items_of body.before ++ l) (append-nil b.items)))

    within : exceeds next ≡ false
    within = (no_cause (repeats body kind) (exceeds next) kinds.DuplicateNumber kinds.TooMany none).1
