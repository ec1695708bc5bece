-- The blocks that lines make which are read one after the other.
use Rattle.std.proofs.Common.{◌≡◌, ℕ, ◌+◌, Bool, true, false, cond, leb, ◌||◌, List, [], ◌∷◌, ◌++◌, length, map, Some, None, refl, sym, ap, ◌∙◌, arith}
use Rattle.std.proofs.Common.{append_assoc}
use Rattle.std.specs.List.{flat_map, list_any}
use Rattle.std.proofs.lemmas.List.{append-nil}
use Rattle.std.proofs.lemmas.List.Concat.{flat_map-append}
use Rattle.std.proofs.lemmas.List.Folds.{list_any-append}
use Rattle.read_refusal.specs.declared.kind.RefusalKind.{RefusalKind}
use Rattle.read_refusal.specs.declared.kind.RefusalKind.TheVariants as kinds
use Rattle.mir_func.specs.declared.block.Block.{Block}
use Rattle.mir_func.specs.declared.item.Item.{Item}
use Rattle.mir_func.specs.Sound.{ids_of, items_of}
use Rattle.mir_func.specs.Limits.{MAX_BLOCKS}
use Rattle.read_body.specs.declared.body.Body.{Body}
use Rattle.read_body.specs.Body.{object_named, and_last, blocks_of, block_with, label_cause, with_label}
use Rattle.read_body.specs.FirstUseOrder.{is_met}
use Rattle.read_program.proofs.Bodies.{facts_apart}
use Rattle.read_program.proofs.Lists.{met_new}
use Rattle.readback_items.specs.Code.{judged_kind}
use Rattle.readback_items.specs.Body.{item_at, items_from, judged_block, entries_named, names_object}
use Rattle.readback_items.proofs.Facts.{item_facts, objects_behind}
use Rattle.readback_items.proofs.Steps.{with_read, with_items, with_block, with_blocks, BlocksFit, last_more}

-- a block behind more items
abbrev pub grown : Block → List Item → Block
grown b items = record { id = b.id; items = b.items ++ items_from b.id b.source_end items; source_end = b.source_end + length items }

pub record Made (body next : Body) (b : Block) (items : List Item) : Type 0 where
  pub before : next.before ≡ body.before
  pub last : next.last ≡ Some (grown b items)
  pub ids : next.ids ≡ body.ids
  pub entries : next.entries ≡ body.entries ++ flat_map entries_named items
  pub objects : (n : ℕ) → is_met n next.objects ≡ (is_met n body.objects || list_any (names_object n) items)

or_end : (b : Bool) → b ≡ (b || false)
or_end true = refl
or_end false = refl

or_assoc : (a b c : Bool) → ((a || b) || c) ≡ (a || (b || c))
or_assoc true b c = refl
or_assoc false b c = refl

made_none : (body : Body) (b : Block) → body.last ≡ Some b → Made body body b []
unfolding items_from
made_none body b last = record {
  before = refl;
  last = last ∙ ap (λ (x : Block). Some x) same;
  ids = refl;
  entries = sym (append-nil body.entries);
  objects = λ n. or_end (is_met n body.objects);
} where
  same : b ≡ grown b []
  same i = record { id = b.id; items = sym (append-nil b.items) i; source_end = (let e : b.source_end ≡ b.source_end + 0 = omega arith in e) i }

-- one item and others
grown_more : (b : Block) (x : Item) (xs : List Item) → grown (block_with (judged_kind x.kind) x.loc b) xs ≡ grown b (x ∷ xs)
unfolding items_from
grown_more b x xs i = record {
  id = b.id;
  items = append_assoc b.items (item_at b.id b.source_end x ∷ []) (items_from b.id (b.source_end + 1) xs) i;
  source_end = (let e : (b.source_end + 1) + length xs ≡ b.source_end + length (x ∷ xs) = omega arith in e) i;
}

pub items_made : (body : Body) (b : Block) (items : List Item) → body.last ≡ Some b → Made body (with_items body items) b items
items_made body b [] last = made_none body b last
items_made body b (x ∷ xs) last =
    let kind = judged_kind x.kind in
    let same = facts_apart body kind in
    let facts = item_facts body kind x.loc (entries_named x) in
    let m = items_made (with_read body x) (block_with kind x.loc b) xs (last_more body b x last) in
    record {
      before = m.before ∙ same.before;
      last = m.last ∙ ap (λ (y : Block). Some y) (grown_more b x xs);
      ids = m.ids ∙ same.ids;
      entries = m.entries ∙ ap (λ (es : List ℕ). (es ++ entries_named x) ++ flat_map entries_named xs) same.entries
          ∙ append_assoc body.entries (entries_named x) (flat_map entries_named xs);
      objects = λ n. m.objects n
          ∙ ap (λ (b : Bool). b || list_any (names_object n) xs) (ap (is_met n) facts.objects ∙ objects_behind body (object_named kind) n)
          ∙ or_assoc (is_met n body.objects) (names_object n x) (list_any (names_object n) xs);
    }

-- ---- blocks

pub record AllMade (body next : Body) (blocks : List Block) : Type 0 where
  pub made : blocks_of next ≡ blocks_of body ++ map judged_block blocks
  pub ids : next.ids ≡ body.ids ++ ids_of blocks
  pub entries : next.entries ≡ body.entries ++ flat_map entries_named (items_of blocks)
  pub objects : (n : ℕ) → is_met n next.objects ≡ (is_met n body.objects || list_any (names_object n) (items_of blocks))

no_label_cause : (a b : Bool) (x y : RefusalKind) → cond a (Some x) (cond b (Some y) None) ≡ None → a ≡ false
no_label_cause true b x y e = absurd cc
no_label_cause false b x y e = refl

new_label : (body : Body) (n : ℕ) → label_cause body n ≡ None → (with_label body n).ids ≡ body.ids ++ n ∷ []
new_label body n none = met_new n body.ids
    (no_label_cause (is_met n body.ids) (leb MAX_BLOCKS (length body.ids)) kinds.DuplicateBlock kinds.TooMany none)

begun : ℕ → Block
begun n = record { id = n; items = []; source_end = 0 }

whole_block : (b : Block) → grown (begun b.id) b.items ≡ judged_block b
unfolding begun
whole_block b i = record {
  id = b.id;
  items = items_from b.id 0 b.items;
  source_end = (let e : 0 + length b.items ≡ length b.items = omega arith in e) i;
}

pub block_made : (body : Body) (b : Block) → label_cause body b.id ≡ None → AllMade body (with_block body b) (b ∷ [])
unfolding begun
block_made body b none =
    let m = items_made (with_label body b.id) (begun b.id) b.items refl in
    let one : items_of (b ∷ []) ≡ b.items = append-nil b.items in
    record {
      made = ap (and_last (with_block body b).before) m.last ∙ ap (λ (bs : List Block). bs ++ grown (begun b.id) b.items ∷ []) m.before
          ∙ ap (λ (x : Block). blocks_of body ++ x ∷ []) (whole_block b);
      ids = m.ids ∙ new_label body b.id none;
      entries = m.entries ∙ ap (λ (is : List Item). body.entries ++ flat_map entries_named is) (sym one);
      objects = λ n. m.objects n ∙ ap (λ (is : List Item). is_met n body.objects || list_any (names_object n) is) (sym one);
    }

pub blocks_made : (body : Body) (blocks : List Block) → BlocksFit body blocks → AllMade body (with_blocks body blocks) blocks
blocks_made body [] fit = record {
  made = sym (append-nil (blocks_of body));
  ids = sym (append-nil body.ids);
  entries = sym (append-nil body.entries);
  objects = λ n. or_end (is_met n body.objects);
}
blocks_made body (b ∷ bs) fit =
    let one = block_made body b fit.0 in
    let more = blocks_made (with_block body b) bs fit.2 in
    let all = append-nil b.items in
    record {
      made = more.made ∙ ap (λ (xs : List Block). xs ++ map judged_block bs) one.made
          ∙ append_assoc (blocks_of body) (judged_block b ∷ []) (map judged_block bs);
      ids = more.ids ∙ ap (λ (ns : List ℕ). ns ++ ids_of bs) one.ids ∙ append_assoc body.ids (b.id ∷ []) (ids_of bs);
      entries = more.entries ∙ ap (λ (es : List ℕ). es ++ flat_map entries_named (items_of bs))
          (one.entries ∙ ap (λ (is : List Item). body.entries ++ flat_map entries_named is) all)
          ∙ append_assoc body.entries (flat_map entries_named b.items) (flat_map entries_named (items_of bs))
          ∙ ap (λ (es : List ℕ). body.entries ++ es) (sym (flat_map-append entries_named b.items (items_of bs)));
      objects = λ n. more.objects n ∙ ap (λ (x : Bool). x || list_any (names_object n) (items_of bs))
          (one.objects n ∙ ap (λ (is : List Item). is_met n body.objects || list_any (names_object n) is) all)
          ∙ or_assoc (is_met n body.objects) (list_any (names_object n) b.items) (list_any (names_object n) (items_of bs))
          ∙ ap (λ (x : Bool). is_met n body.objects || x) (sym (list_any-append (names_object n) b.items (items_of bs)));
    }
