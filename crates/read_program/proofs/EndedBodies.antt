-- What blocks keep whose ends are those of the linked language: they have the first of their items, of which the last may be a call that doesn't return.
use Rattle.std.proofs.Common.{◌≡◌, ◌⊎◌, ℕ, zero, suc, ◌+◌, ◌<◌, ◌≤◌, Bool, true, false, cond, ltb, List, [], ◌∷◌, ◌++◌, length, get_or, drop, map, All}
use Rattle.std.proofs.Common.{Option, Some, None, refl, sym, ap, subst, ◌∙◌, inl, inr, arith}
use Rattle.std.specs.List.{slice_get}
use Rattle.std.proofs.lemmas.Bool.{ltb-false}
use Rattle.std.proofs.lemmas.List.{drop_more, drop_all, map-append}
use Rattle.std.specs.Prelude.{option_map}
use Rattle.std.proofs.lemmas.List.Elements.{All-nil, All-cons, All-head, All-tail, All-push, All-weaker}
use Rattle.std.proofs.lemmas.List.Concat.{flat_map-append}
use Rattle.mir_func.specs.declared.block.Block.{Block}
use Rattle.mir_func.specs.declared.item.Item.{Item}
use Rattle.mir_func.specs.declared.item.ItemKind.{ItemKind}
use Rattle.mir_func.specs.declared.item.ItemKind.TheVariants.{Code, Mark, Phi}
use Rattle.mir_func.specs.declared.location.Loc.{Loc}
use Rattle.mir_func.specs.Sound.{AreApart, ids_of, items_of, code_number, number_of, NumbersOnce}
use Rattle.read_program.specs.Ends.{is_code, is_gone_call, kind_not_returning, last_kind, newer, last_from, last_code, cut_behind, last_item, cut_at, cut_by}
use Rattle.read_body.specs.declared.body.Body.{Body}
use Rattle.read_body.specs.Body.{and_last, blocks_of}
use Rattle.read_body.specs.FirstUseOrder.{is_met}
use Rattle.read_program.specs.Ends.{ended_items, shorter, ended_block, with_ends}
use Rattle.read_program.proofs.Bodies.{IsReadBlock, IsReadBody}
use Rattle.read_program.proofs.Lists.{All-front, All-last}

-- ---- the last item of code

pub last_turn : (items : List Item) (i : ℕ) (here : Item) (found : Option ℕ) → i < length items → here ≡ get_or items i here →
    last_from i found (drop i items) ≡ last_code items → last_from (i + 1) (newer (is_code here.kind) i found) (drop (i + 1) items) ≡ last_code items
unfolding last_from
last_turn items i here found lt is read =
    let parts : drop i items ≡ here ∷ drop (i + 1) items = drop_more items i here lt ∙ ap (λ (x : Item). x ∷ drop (i + 1) items) (sym is) in
    ap (last_from i found) (sym parts) ∙ read

pub last_end : (items : List Item) (i : ℕ) (found : Option ℕ) → length items ≤ i → last_from i found (drop i items) ≡ last_code items →
    found ≡ last_code items
unfolding last_from
last_end items i found all read = ap (last_from i found) (sym (drop_all i items all)) ∙ read

-- ---- an item that may not return

-- the number of an item stays
same_code : (kind : ItemKind) → code_number (kind_not_returning kind) ≡ code_number kind
same_code (Code i k) = refl
same_code (Mark v m) = refl
same_code (Phi p k) = refl

same_number : (kind : ItemKind) → number_of (kind_not_returning kind) ≡ number_of kind
same_number (Code i k) = refl
same_number (Mark v m) = refl
same_number (Phi p k) = refl

last_code_number : (closed : Bool) (kind : ItemKind) → code_number (last_kind closed kind) ≡ code_number kind
last_code_number true kind = same_code kind
last_code_number false kind = refl

last_number : (closed : Bool) (kind : ItemKind) → number_of (last_kind closed kind) ≡ number_of kind
last_number true kind = same_number kind
last_number false kind = refl

-- ---- items within others: some of them, in order, with their numbers

pub data Within : List Item → List Item → Type 0 where
  none : Within [] []
  more : {y x : Item} {ys xs : List Item} → code_number y.kind ≡ code_number x.kind → number_of y.kind ≡ number_of x.kind → Within ys xs →
      Within (y ∷ ys) (x ∷ xs)
  less : {x : Item} {ys xs : List Item} → Within ys xs → Within ys (x ∷ xs)

pub within_all : (xs : List Item) → Within xs xs
within_all [] = none
within_all (x ∷ xs) = more refl refl (within_all xs)

within_none : (xs : List Item) → Within [] xs
within_none [] = none
within_none (x ∷ xs) = less (within_none xs)

within_append : {ys xs vs us : List Item} → Within ys xs → Within vs us → Within (ys ++ vs) (xs ++ us)
within_append none rest = rest
within_append (more code number w) rest = more code number (within_append w rest)
within_append (less w) rest = less (within_append w rest)

-- where an item of them stands among the others
place : {ys xs : List Item} → Within ys xs → ℕ → ℕ
place none j = j
place (more code number w) zero = zero
place (more code number w) (suc j) = suc (place w j)
place (less w) j = suc (place w j)

record StandsAt (xs : List Item) (k : ℕ) (y : Item) : Type 0 where
  item : Item
  there : slice_get xs k ≡ Some item
  code : code_number item.kind ≡ code_number y.kind
  number : number_of item.kind ≡ number_of y.kind

stands : {ys xs : List Item} (w : Within ys xs) (j : ℕ) (y : Item) → slice_get ys j ≡ Some y → StandsAt xs (place w j) y
unfolding place
stands none j y e = absurd cc
stands (more {y = z} {x} {ys} {xs} code number w) zero y e =
    let same : z ≡ y = cc in
    subst (λ (t : Item). StandsAt (x ∷ xs) zero t) same (record { item = x; there = refl; code = sym code; number = sym number })
stands (more code number w) (suc j) y e =
    let at = stands w j y e in record { item = at.item; there = at.there; code = at.code; number = at.number }
stands (less w) j y e = let at = stands w j y e in record { item = at.item; there = at.there; code = at.code; number = at.number }

apart : {ys xs : List Item} (w : Within ys xs) (i j : ℕ) (y z : Item) → slice_get ys i ≡ Some y → slice_get ys j ≡ Some z → place w i ≡ place w j → i ≡ j
unfolding place
apart none i j y z ey ez same = absurd cc
apart (more code number w) zero zero y z ey ez same = refl
apart (more code number w) zero (suc j) y z ey ez same = let other : zero ≡ suc (place w j) = same in absurd (omega (arith, other))
apart (more code number w) (suc i) zero y z ey ez same = let other : suc (place w i) ≡ zero = same in absurd (omega (arith, other))
apart (more code number w) (suc i) (suc j) y z ey ez same =
    let later : suc (place w i) ≡ suc (place w j) = same in ap suc (apart w i j y z ey ez (omega (arith, later)))
apart (less w) i j y z ey ez same =
    let later : suc (place w i) ≡ suc (place w j) = same in apart w i j y z ey ez (omega (arith, later))

pub once_within : {ys xs : List Item} → Within ys xs → NumbersOnce xs → NumbersOnce ys
once_within w once i j y z k ey cy ez nz =
    let one = stands w i y ey in
    let other = stands w j z ez in
    apart w i j y z ey ez (once (place w i) (place w j) one.item other.item k one.there (one.code ∙ cy) other.there (other.number ∙ nz))

-- ---- items up to one

cut_within : (xs : List Item) (n : ℕ) (x y : Item) → slice_get xs n ≡ Some x → code_number y.kind ≡ code_number x.kind → number_of y.kind ≡ number_of x.kind →
    Within (cut_behind xs n y) xs
cut_within [] n x y at code number = absurd cc
cut_within (z ∷ xs) zero x y at code number =
    let same : x ≡ z = cc in
    more (subst (λ (t : Item). code_number y.kind ≡ code_number t.kind) same code) (subst (λ (t : Item). number_of y.kind ≡ number_of t.kind) same number)
    (within_none xs)
cut_within (z ∷ xs) (suc n) x y at code number = more refl refl (cut_within xs n x y at code number)

cut_items : (xs : List Item) (n : ℕ) (x y : Item) → slice_get xs n ≡ Some x → (k : ℕ) (i : Item) → slice_get (cut_behind xs n y) k ≡ Some i →
    (slice_get xs k ≡ Some i) ⊎ ((k ≡ n) × (y ≡ i))
cut_items [] n x y at k i e = absurd cc
cut_items (z ∷ xs) zero x y at zero i e = inr (refl, cc)
cut_items (z ∷ xs) zero x y at (suc k) i e = absurd cc
cut_items (z ∷ xs) (suc n) x y at zero i e = inl e
cut_items (z ∷ xs) (suc n) x y at (suc k) i e = elim (cut_items xs n x y at k i e) [
  | inl there ↦ inl there
  | inr last ↦ inr (ap suc last.0, last.1)
]

cut_each : (P Q : Item → Type 0) → ((i : Item) → P i → Q i) → (xs : List Item) (n : ℕ) (x y : Item) → slice_get xs n ≡ Some x → (P x → Q y) → All P xs →
    All Q (cut_behind xs n y)
cut_each P Q as_is [] n x y at from all = absurd cc
cut_each P Q as_is (z ∷ xs) zero x y at from all =
    let same : z ≡ x = cc in All-cons Q y [] (from (subst P same (All-head P z xs all))) (All-nil Q)
cut_each P Q as_is (z ∷ xs) (suc n) x y at from all =
    All-cons Q z (cut_behind xs n y) (as_is z (All-head P z xs all)) (cut_each P Q as_is xs n x y at from (All-tail P z xs all))

cut_short : (xs : List Item) (n : ℕ) (x y : Item) → slice_get xs n ≡ Some x → length (cut_behind xs n y) ≤ length xs
cut_short [] n x y at = absurd cc
cut_short (z ∷ xs) zero x y at = omega arith
cut_short (z ∷ xs) (suc n) x y at = let rest = cut_short xs n x y at in omega (arith, rest)

-- ---- blocks

-- what an item keeps, and one that doesn't return any more
module _ (P Q : ItemKind → Loc → Type 0) (as_is : (kind : ItemKind) (loc : Loc) → P kind loc → Q kind loc)
    (gone : (kind : ItemKind) (loc : Loc) → P kind loc → Q (kind_not_returning kind) loc) where
  last_kept : (closed : Bool) (kind : ItemKind) (loc : Loc) → P kind loc → Q (last_kind closed kind) loc
  last_kept true kind loc p = gone kind loc p
  last_kept false kind loc p = as_is kind loc p

  -- the items of a block that is ended
  record IsEnded (xs ys : List Item) : Type 0 where
    within : Within ys xs
    items : (k : ℕ) (i : Item) → slice_get ys k ≡ Some i → (j : Item) × (slice_get xs k ≡ Some j) × (i.origin ≡ j.origin)
    each : All (λ i. Q i.kind i.loc) ys
    short : length ys ≤ length xs

  whole : (xs : List Item) → All (λ i. P i.kind i.loc) xs → IsEnded xs xs
  whole xs all = record {
    within = within_all xs;
    items = λ k i e. (i, e, refl);
    each = All-weaker (λ i. P i.kind i.loc) (λ i. Q i.kind i.loc) (λ i p. as_is i.kind i.loc p) xs all;
    short = omega arith;
  }

  cut_ended : (closed : Bool) (xs : List Item) (n : ℕ) (x : Item) → slice_get xs n ≡ Some x → All (λ i. P i.kind i.loc) xs →
      IsEnded xs (cut_behind xs n (record x { kind = last_kind closed x.kind }))
  cut_ended closed xs n x at all = record {
    within = cut_within xs n x last at (last_code_number closed x.kind) (last_number closed x.kind);
    items = λ k i e. elim (cut_items xs n x last at k i e) [
      | inl there ↦ (i, there, refl)
      | inr here ↦ (x, subst (λ (m : ℕ). slice_get xs m ≡ Some x) (sym here.0) at, ap (λ (t : Item). t.origin) (sym here.1))
    ];
    each = cut_each (λ i. P i.kind i.loc) (λ i. Q i.kind i.loc) (λ i p. as_is i.kind i.loc p) xs n x last at (last_kept closed x.kind x.loc) all;
    short = cut_short xs n x last at;
  } where
    last : Item
    last = record x { kind = last_kind closed x.kind }

  item_ended : (closed : Bool) (xs : List Item) (n : ℕ) (o : Option Item) → slice_get xs n ≡ o → All (λ i. P i.kind i.loc) xs →
      IsEnded xs (cut_at xs n (last_item closed o))
  item_ended closed xs n None at all = whole xs all
  item_ended closed xs n (Some x) at all = by (is_gone_call (last_kind closed x.kind)) where
    by : (b : Bool) → IsEnded xs (cut_at xs n (cond b (Some (record x { kind = last_kind closed x.kind })) None))
    by true = cut_ended closed xs n x at all
    by false = whole xs all

  items_ended : (closed : Bool) (xs : List Item) (o : Option ℕ) → All (λ i. P i.kind i.loc) xs → IsEnded xs (cut_by closed xs o)
  items_ended closed xs None all = whole xs all
  items_ended closed xs (Some n) all = item_ended closed xs n (slice_get xs n) refl all

  block_items : (closed : Bool) (b : Block) → IsReadBlock P b → IsEnded b.items (ended_items closed b.items)
  block_items closed b is = items_ended closed b.items (last_code b.items) is.each

  end_is : (source_end all left : ℕ) → source_end ≡ all → left ≤ all → shorter source_end left ≡ left
  end_is source_end all left is le = by (ltb left source_end) refl where
    by : (b : Bool) → ltb left source_end ≡ b → cond b left source_end ≡ left
    by true e = refl
    by false e = let most = ltb-false left source_end e in omega (arith, is, le, most)

  pub block_reads : (closed : Bool) (b : Block) → IsReadBlock P b → IsReadBlock Q (ended_block closed b)
  unfolding ended_block
  block_reads closed b is =
      let ended = block_items closed b is in
      record {
        items = λ k i e. (let from = ended.items k i e in from.2 ∙ is.items k from.0 from.1);
        source_end = end_is b.source_end (length b.items) (length (ended_items closed b.items)) is.source_end ended.short;
        each = ended.each;
      }

  pub block_within : (closed : Bool) (b : Block) → IsReadBlock P b → Within (ended_block closed b).items b.items
  unfolding ended_block
  block_within closed b is = (block_items closed b is).within

  pub blocks_within : (f : Block → Bool) (bs : List Block) → All (IsReadBlock P) bs → Within (items_of (map (λ b. ended_block (f b) b) bs)) (items_of bs)
  blocks_within f [] all = none
  blocks_within f (b ∷ bs) all =
      within_append (block_within (f b) b (All-head (IsReadBlock P) b bs all)) (blocks_within f bs (All-tail (IsReadBlock P) b bs all))

  pub blocks_read : (f : Block → Bool) (bs : List Block) → All (IsReadBlock P) bs → All (IsReadBlock Q) (map (λ b. ended_block (f b) b) bs)
  blocks_read f [] all = All-nil (IsReadBlock Q)
  blocks_read f (b ∷ bs) all =
      All-cons (IsReadBlock Q) (ended_block (f b) b) (map (λ c. ended_block (f c) c) bs) (block_reads (f b) b (All-head (IsReadBlock P) b bs all))
      (blocks_read f bs (All-tail (IsReadBlock P) b bs all))

-- ---- bodies

within_short : {ys xs : List Item} → Within ys xs → length ys ≤ length xs
within_short none = omega arith
within_short (more code number w) = let rest = within_short w in omega (arith, rest)
within_short (less w) = let rest = within_short w in omega (arith, rest)

-- what holds of each item of a body that was read, by what is weaker
pub weaker_body : (P Q : ItemKind → Loc → Type 0) (body : Body) → ((kind : ItemKind) (loc : Loc) → P kind loc → Q kind loc) → IsReadBody P body →
    IsReadBody Q body
weaker_body P Q body as_is is = record {
  blocks = All-weaker (IsReadBlock P) (IsReadBlock Q) (λ b r. record {
    items = r.items;
    source_end = r.source_end;
    each = All-weaker (λ i. P i.kind i.loc) (λ i. Q i.kind i.loc) (λ i p. as_is i.kind i.loc p) b.items r.each;
  }) (blocks_of body) is.blocks;
  ids = is.ids;
  apart = is.apart;
  few_blocks = is.few_blocks;
  counted = is.counted;
  few = is.few;
  codes = is.codes;
  numbers = is.numbers;
  once = is.once;
}

block_id : (closed : Bool) (b : Block) → (ended_block closed b).id ≡ b.id
unfolding ended_block
block_id closed b = refl

ids_ended : (f : Block → Bool) (bs : List Block) → ids_of (map (λ b. ended_block (f b) b) bs) ≡ ids_of bs
ids_ended f [] = refl
ids_ended f (b ∷ bs) = λ i. block_id (f b) b i ∷ ids_ended f bs i

module _ (P Q : ItemKind → Loc → Type 0) (as_is : (kind : ItemKind) (loc : Loc) → P kind loc → Q kind loc)
    (gone : (kind : ItemKind) (loc : Loc) → P kind loc → Q (kind_not_returning kind) loc) (f : Block → Bool) where
  abbrev ends : List Block → Option Block → List Block
  ends before last = and_last (map (λ b. ended_block (f b) b) before) (option_map (ended_block true) last)

  all_read : (before : List Block) (last : Option Block) → All (IsReadBlock P) (and_last before last) → All (IsReadBlock Q) (ends before last)
  all_read before None all = blocks_read P Q as_is gone f before all
  all_read before (Some b) all =
      All-push (IsReadBlock Q) (map (λ c. ended_block (f c) c) before) (ended_block true b)
      (blocks_read P Q as_is gone f before (All-front (IsReadBlock P) before (b ∷ []) all))
      (block_reads P Q as_is gone true b (All-last (IsReadBlock P) before b all))

  all_ids : (before : List Block) (last : Option Block) → ids_of (ends before last) ≡ ids_of (and_last before last)
  all_ids before None = ids_ended f before
  all_ids before (Some b) =
      map-append (λ (c : Block). c.id) (map (λ c. ended_block (f c) c) before) (ended_block true b ∷ [])
      ∙ (λ i. ids_ended f before i ++ block_id true b i ∷ [])
      ∙ sym (map-append (λ (c : Block). c.id) before (b ∷ []))

  all_within : (before : List Block) (last : Option Block) → All (IsReadBlock P) (and_last before last) →
      Within (items_of (ends before last)) (items_of (and_last before last))
  all_within before None all = blocks_within P Q as_is gone f before all
  all_within before (Some b) all =
      let front = map (λ (c : Block). ended_block (f c) c) before in
      let one : items_of (front ++ ended_block true b ∷ []) ≡ items_of front ++ ((ended_block true b).items ++ []) =
      flat_map-append (λ (x : Block). x.items) front (ended_block true b ∷ []) in
      let other : items_of (before ++ b ∷ []) ≡ items_of before ++ (b.items ++ []) = flat_map-append (λ (x : Block). x.items) before (b ∷ []) in
      subst (λ (ys : List Item). Within ys (items_of (before ++ b ∷ []))) (sym one)
      (subst (λ (xs : List Item). Within (items_of front ++ ((ended_block true b).items ++ [])) xs) (sym other)
      (within_append (blocks_within P Q as_is gone f before (All-front (IsReadBlock P) before (b ∷ []) all))
      (within_append (block_within P Q as_is gone true b (All-last (IsReadBlock P) before b all)) none)))

-- the body whose blocks end so
pub body_ended : (P Q : ItemKind → Loc → Type 0) → ((kind : ItemKind) (loc : Loc) → P kind loc → Q kind loc) →
    ((kind : ItemKind) (loc : Loc) → P kind loc → Q (kind_not_returning kind) loc) → (body : Body) → IsReadBody P body → IsReadBody Q (with_ends body)
body_ended P Q as_is gone body is = record {
  blocks = all_read P Q as_is gone closed body.before body.last is.blocks;
  ids = is.ids ∙ sym ids;
  apart = subst AreApart (sym ids) is.apart;
  few_blocks = is.few_blocks;
  counted = (let short = within_short within in omega (arith, short, is.counted));
  few = is.few;
  codes = λ i x k e f. (let at = stands within i x e in is.codes (place within i) at.item k at.there (at.code ∙ f));
  numbers = λ i x k e f. (let at = stands within i x e in is.numbers (place within i) at.item k at.there (at.number ∙ f));
  once = once_within within is.once;
} where
  closed : Block → Bool
  closed b = is_met b.id body.closed

  ids : ids_of (blocks_of (with_ends body)) ≡ ids_of (blocks_of body)
  ids = all_ids P Q as_is gone closed body.before body.last

  within : Within (items_of (blocks_of (with_ends body))) (items_of (blocks_of body))
  within = all_within P Q as_is gone closed body.before body.last is.blocks
