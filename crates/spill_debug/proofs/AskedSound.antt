-- A function whose marks ask by phis is a function still.
use Rattle.std.proofs.Common.{◌≡◌, inl, inr, ℕ, zero, suc, ◌+◌, ◌<◌, ◌≤◌, List, [], ◌∷◌, ◌++◌, All, Option, Some, None, Bool, true}
use Rattle.std.proofs.Common.{false, cond, slice_get}
use Rattle.std.proofs.Common.{refl, sym, ap, ◌∙◌, subst, arith}
use Rattle.std.specs.List.{cons_option}
use Rattle.std.proofs.lemmas.List.Concat.{flat_map-cons}
use Rattle.std.proofs.lemmas.List.Elements.{All-nil, All-cons, All-head, All-tail, All-append}
use Rattle.rv64_instr.specs.declared.place.Place.{Place}
use Rattle.rv64_instr.specs.declared.place.Place.TheVariants.{Register}
use Rattle.mir_func.specs.declared.position.Origin.{Origin}
use Rattle.mir_func.specs.declared.position.Origin.TheVariants.{Kept, Before}
use Rattle.mir_func.specs.declared.location.Loc.{Loc}
use Rattle.mir_func.specs.declared.variable.VarId.{VarId}
use Rattle.mir_func.specs.declared.variable.MarkValue.{MarkValue}
use Rattle.mir_func.specs.declared.variable.MarkValue.TheVariants.{Nothing, Constant, At, Pair}
use Rattle.mir_func.specs.declared.block.Block.{Block}
use Rattle.mir_func.specs.declared.item.Item.{Item}
use Rattle.mir_func.specs.declared.item.ItemKind.{ItemKind}
use Rattle.mir_func.specs.declared.item.ItemKind.TheVariants.{Code, Mark, Phi}
use Rattle.mir_func.specs.Exits.{exit_of, IsAlways}
use Rattle.mir_func.specs.Sound.{AllItems, ids_of, items_of, number_of, code_number, OriginIn, TargetsIn, SlotsIn, PlaceIn, ObjectsIn, LeavesPointer}
use Rattle.mir_func.specs.Sound.{KindPassesFirst}
use Rattle.mir_func.proofs.Once.{codes_of}
use Rattle.mir_func.specs.Positions.{position_of}
use Rattle.pass_trait.specs.Rule.{item, item_before, first_operand}
use Rattle.spill_code.specs.declared.spilling.Spilling.{Spilling}
use Rattle.spill_code.specs.Rewrite.{slot_of}
use Rattle.spill_debug.specs.RewrittenDebugItems.{is_scratch_place, value_left, place_left, mark_asked, kind_asked, number_past, next_number}
use Rattle.spill_debug.specs.RewrittenDebugItems.{number_behind, items_asked, blocks_asked, asked}
use Rattle.spill_debug.specs.Laws.{AskedIsSound}
use Rattle.spill_debug.proofs.Grown.{IsExtra, IsLike, Grown, none, grows, BlocksGrow, no_blocks, next_block, sound_grown}

module _ (s : Spilling) where
  -- ---- what holds of each item

  -- what marks and phis keep, whatever they ask for
  pub record Passes (P : ItemKind → Origin → Type 0) : Type 0 where
    pub marks : (v : VarId) (m m' : MarkValue) (o : Origin) → P (Mark v m) o → P (Mark v m') o
    pub phis : (p : Option Place) (n : ℕ) (o : Origin) → P (Phi p n) o → P (Phi (place_left s p) n) o
    pub puts : (v : VarId) (m : MarkValue) (r n : ℕ) (o : Origin) → P (Mark v m) o → P (Phi (Some (Register r)) n) (Before (position_of o))

  module _ (P : ItemKind → Origin → Type 0) (passes : Passes P) where
    abbrev Each : Item → Type 0
    Each i = P i.kind i.origin

    one : (x : Item) → Each x → All Each (x ∷ [])
    one x h = All-cons Each x [] h (All-nil Each)

    each_kind : (k : ℕ) (kind : ItemKind) (o : Origin) (l : Loc) → P kind o → All Each (kind_asked s k kind o l)
    each_kind k (Code i n) o l h = one (item (Code i n) o l) h
    each_kind k (Phi p n) o l h = one (item (Phi (place_left s p) n) o l) (passes.phis p n o h)
    each_kind k (Mark v Nothing) o l h = one (item (Mark v Nothing) o l) h
    each_kind k (Mark v (Constant n)) o l h = one (item (Mark v (Constant n)) o l) h
    each_kind k (Mark v (Pair q)) o l h = one (item (Mark v (Pair q)) o l) h
    each_kind k (Mark v (At r)) o l h = by_home (slot_of s.homes r) where
      by_home : (z : Option ℕ) → All Each (mark_asked s k v r z o l)
      by_home None = one (item (Mark v (value_left s r)) o l) (passes.marks v (At r) (value_left s r) o h)
      by_home (Some n) = All-cons Each (item_before (Phi (Some (Register r)) k) o) (item (Mark v (Pair (first_operand k))) o l ∷ [])
          (passes.puts v (At r) r k o h)
          (one (item (Mark v (Pair (first_operand k))) o l) (passes.marks v (At r) (Pair (first_operand k)) o h))

    pub each_item : (k : ℕ) (xs : List Item) → All Each xs → All Each (items_asked s k xs)
    each_item k [] h = All-nil Each
    each_item k (x ∷ xs) h =
        All-append Each (kind_asked s k x.kind x.origin x.loc) (items_asked s (next_number s.homes k x.kind) xs)
        (each_kind k x.kind x.origin x.loc (All-head Each x xs h)) (each_item (next_number s.homes k x.kind) xs (All-tail Each x xs h))

  module _ (P : ItemKind → Origin → Type 0) (passes : Passes P) where
    pub each_block : (k : ℕ) (bs : List Block) → AllItems (λ i. P i.kind i.origin) bs → AllItems (λ i. P i.kind i.origin) (blocks_asked s k bs)
    each_block k [] h = All-nil (λ (b : Block). All (λ (i : Item). P i.kind i.origin) b.items)
    each_block k (b ∷ bs) h =
        All-cons (λ (b : Block). All (λ (i : Item). P i.kind i.origin) b.items)
        (record { id = b.id; items = items_asked s k b.items; source_end = b.source_end })
        (blocks_asked s (number_behind s.homes k b.items) bs)
        (each_item P passes k b.items (All-head (λ (b : Block). All (λ (i : Item). P i.kind i.origin) b.items) b bs h))
        (each_block (number_behind s.homes k b.items) bs (All-tail (λ (b : Block). All (λ (i : Item). P i.kind i.origin) b.items) b bs h))

  -- what debug items keep, whatever they are
  plain : (P : ItemKind → Type 0) → ((v : VarId) (m : MarkValue) → P (Mark v m)) → ((p : Option Place) (n : ℕ) → P (Phi p n)) → Passes (λ kind o. P kind)
  plain P mark phi = record { marks = λ v m m' o h. mark v m'; phis = λ p n o h. phi (place_left s p) n; puts = λ v m r n o h. phi (Some (Register r)) n }

  place_kept : (slots : List ℕ) (p : Option Place) → PlaceIn slots p → PlaceIn slots (place_left s p)
  place_kept slots None h = tt
  place_kept slots (Some p) h = by_test (is_scratch_place s p) where
    by_test : (z : Bool) → PlaceIn slots (cond z None (Some p))
    by_test true = tt
    by_test false = h

  slots_pass : (slots : List ℕ) → Passes (λ kind o. SlotsIn slots kind)
  slots_pass slots = record { marks = λ v m m' o h. tt; phis = λ p n o h. place_kept slots p h; puts = λ v m r n o h. tt }

  before_in : (b : Block) (o : Origin) → OriginIn b o → OriginIn b (Before (position_of o))
  before_in b (Kept p) (home, lt) = (home, omega (arith, lt))
  before_in b (Before p) h = h

  origins_pass : (b : Block) → Passes (λ kind o. OriginIn b o)
  origins_pass b = record { marks = λ v m m' o h. h; phis = λ p n o h. h; puts = λ v m r n o h. before_in b o h }

  same_home : (b : Block) (ys : List Item) (o : Origin) → OriginIn b o → OriginIn (record { id = b.id; items = ys; source_end = b.source_end }) o
  same_home b ys (Kept p) h = h
  same_home b ys (Before p) h = h

  all_weaker : (P Q : Item → Type 0) → ((x : Item) → P x → Q x) → (xs : List Item) → All P xs → All Q xs
  all_weaker P Q f [] h = All-nil Q
  all_weaker P Q f (x ∷ xs) h = All-cons Q x xs (f x (All-head P x xs h)) (all_weaker P Q f xs (All-tail P x xs h))

  origins_asked : (k : ℕ) (bs : List Block) → All (λ (b : Block). All (λ (i : Item). OriginIn b i.origin) b.items) bs →
      All (λ (b : Block). All (λ (i : Item). OriginIn b i.origin) b.items) (blocks_asked s k bs)
  origins_asked k [] h = All-nil (λ (b : Block). All (λ (i : Item). OriginIn b i.origin) b.items)
  origins_asked k (b ∷ bs) h =
      All-cons (λ (b : Block). All (λ (i : Item). OriginIn b i.origin) b.items)
      (record { id = b.id; items = items_asked s k b.items; source_end = b.source_end })
      (blocks_asked s (number_behind s.homes k b.items) bs)
      (all_weaker (λ i. OriginIn b i.origin) (λ i. OriginIn (record { id = b.id; items = items_asked s k b.items; source_end = b.source_end }) i.origin)
      (λ x inside. same_home b (items_asked s k b.items) x.origin inside) (items_asked s k b.items)
      (each_item (λ kind o. OriginIn b o) (origins_pass b) k b.items (All-head (λ (b : Block). All (λ (i : Item). OriginIn b i.origin) b.items) b bs h)))
      (origins_asked (number_behind s.homes k b.items) bs (All-tail (λ (b : Block). All (λ (i : Item). OriginIn b i.origin) b.items) b bs h))

  -- ---- how it grows

  module _ (least : ℕ) where
    abbrev pub Fresh : ℕ → Type 0
    Fresh n = least ≤ n

    low : (k : ℕ) (home : Option ℕ) → least ≤ k → least ≤ number_past k home
    low k None le = le
    low k (Some n) le = omega (arith, le)

    pub low_next : (k : ℕ) (kind : ItemKind) → least ≤ k → least ≤ next_number s.homes k kind
    low_next k (Code i n) le = le
    low_next k (Phi p n) le = le
    low_next k (Mark v Nothing) le = le
    low_next k (Mark v (Constant n)) le = le
    low_next k (Mark v (Pair q)) le = le
    low_next k (Mark v (At r)) le = low k (slot_of s.homes r) le

    low_behind : (k : ℕ) (xs : List Item) → least ≤ k → least ≤ number_behind s.homes k xs
    low_behind k [] le = le
    low_behind k (x ∷ xs) le = low_behind (next_number s.homes k x.kind) xs (low_next k x.kind le)

    no_extra : All (IsExtra Fresh) []
    no_extra = All-nil (IsExtra Fresh)

    -- an item that stays, with nothing before and after it
    alone : (x y : Item) (xs ys : List Item) → IsLike Fresh x y → Grown Fresh xs ys → Grown Fresh (x ∷ xs) (y ∷ ys)
    alone x y xs ys like more = grows [] [] no_extra like no_extra (inl refl) (inl refl) more refl

    -- it is like what it was
    like_code : (x : Item) (kind kind' : ItemKind) (o : Origin) (l : Loc) → x.kind ≡ kind → exit_of kind' ≡ exit_of kind → code_number kind' ≡ code_number
        kind →
        number_of kind' ≡ number_of kind → IsLike Fresh x (item kind' o l)
    like_code x kind kind' o l e exit code number =
        record { exit = exit ∙ ap exit_of (sym e); code = code ∙ ap code_number (sym e); number = number ∙ ap number_of (sym e) }

    pub grown_items : (k : ℕ) → least ≤ k → (xs : List Item) → Grown Fresh xs (items_asked s k xs)
    grown_items k le [] = none
    grown_items k le (x ∷ xs) = by_kind x.kind refl (grown_items (next_number s.homes k x.kind) (low_next k x.kind le) xs) where
      by_home : (v : VarId) (r : ℕ) (z : Option ℕ) → x.kind ≡ Mark v (At r) → Grown Fresh xs (items_asked s (number_past k z) xs) →
          Grown Fresh (x ∷ xs) (mark_asked s k v r z x.origin x.loc ++ items_asked s (number_past k z) xs)
      by_home v r None e more =
          alone x (item (Mark v (value_left s r)) x.origin x.loc) xs (items_asked s k xs)
          (like_code x (Mark v (At r)) (Mark v (value_left s r)) x.origin x.loc e refl refl refl) more
      by_home v r (Some n) e more =
          grows (item_before (Phi (Some (Register r)) k) x.origin ∷ []) []
          (All-cons (IsExtra Fresh) (item_before (Phi (Some (Register r)) k) x.origin) [] (record { exit = refl; code = refl; fresh = fresh }) no_extra)
          (like_code x (Mark v (At r)) (Mark v (Pair (first_operand k))) x.origin x.loc e refl refl refl) no_extra (inr never) (inl refl) more refl where
            fresh : (m : ℕ) → Some k ≡ Some m → least ≤ m
            fresh m is = let same : k ≡ m = cc in omega (arith, le, same)

            never : IsAlways (exit_of x.kind) → ⊥
            never h = subst (λ (z : ItemKind). IsAlways (exit_of z)) e h

      by_kind : (kind : ItemKind) → x.kind ≡ kind → Grown Fresh xs (items_asked s (next_number s.homes k kind) xs) →
          Grown Fresh (x ∷ xs) (kind_asked s k kind x.origin x.loc ++ items_asked s (next_number s.homes k kind) xs)
      by_kind (Code i n) e more =
          alone x (item (Code i n) x.origin x.loc) xs (items_asked s k xs) (like_code x (Code i n) (Code i n) x.origin x.loc e refl refl refl) more
      by_kind (Phi p n) e more =
          alone x (item (Phi (place_left s p) n) x.origin x.loc) xs (items_asked s k xs)
          (like_code x (Phi p n) (Phi (place_left s p) n) x.origin x.loc e refl refl refl) more
      by_kind (Mark v Nothing) e more =
          alone x (item (Mark v Nothing) x.origin x.loc) xs (items_asked s k xs)
          (like_code x (Mark v Nothing) (Mark v Nothing) x.origin x.loc e refl refl refl) more
      by_kind (Mark v (Constant n)) e more =
          alone x (item (Mark v (Constant n)) x.origin x.loc) xs (items_asked s k xs)
          (like_code x (Mark v (Constant n)) (Mark v (Constant n)) x.origin x.loc e refl refl refl) more
      by_kind (Mark v (Pair q)) e more =
          alone x (item (Mark v (Pair q)) x.origin x.loc) xs (items_asked s k xs)
          (like_code x (Mark v (Pair q)) (Mark v (Pair q)) x.origin x.loc e refl refl refl) more
      by_kind (Mark v (At r)) e more = by_home v r (slot_of s.homes r) e more

    pub grown_blocks : (k : ℕ) → least ≤ k → (bs : List Block) → BlocksGrow Fresh bs (blocks_asked s k bs)
    grown_blocks k le [] = no_blocks
    grown_blocks k le (b ∷ bs) =
        next_block [] (items_asked s k b.items) refl refl no_extra (grown_items k le b.items) refl
        (grown_blocks (number_behind s.homes k b.items) (low_behind k b.items le) bs)

-- no number of code is fresh
abbrev Below : ℕ → Item → Type 0
Below k i = (n : ℕ) → number_of i.kind ≡ Some n → n < k

code_is_number : (kind : ItemKind) (n : ℕ) → code_number kind ≡ Some n → number_of kind ≡ Some n
code_is_number (Code i k) n e = e
code_is_number (Mark v m) n e = cc
code_is_number (Phi p k) n e = cc

codes_below : (k : ℕ) (xs : List Item) → All (Below k) xs → (j n : ℕ) → slice_get (codes_of xs) j ≡ Some n → n < k
codes_below k [] h j n e = cc
codes_below k (x ∷ xs) h j n e = by_code (λ i is. codes_below k xs (All-tail (Below k) x xs h) i n is) (code_number x.kind) refl j e where
  by_code : ((i : ℕ) → slice_get (codes_of xs) i ≡ Some n → n < k) → (z : Option ℕ) → code_number x.kind ≡ z → (j : ℕ) →
      slice_get (cons_option z (codes_of xs)) j ≡ Some n → n < k
  by_code later None c j e = later j e
  by_code later (Some m) c zero e = All-head (Below k) x xs h n (code_is_number x.kind n (c ∙ e))
  by_code later (Some m) c (suc j) e = later j e

all_below : (k : ℕ) (bs : List Block) → AllItems (Below k) bs → All (Below k) (items_of bs)
all_below k [] h = All-nil (Below k)
all_below k (b ∷ bs) h =
    subst (All (Below k)) (sym (flat_map-cons (λ (c : Block). c.items) b bs))
    (All-append (Below k) b.items (items_of bs) (All-head (λ (b : Block). All (Below k) b.items) b bs h)
    (all_below k bs (All-tail (λ (b : Block). All (Below k) b.items) b bs h)))

pub asked_is_sound : AskedIsSound
asked_is_sound s k f sound below =
    sound_grown (Fresh s k) f (asked s k f) sound (grown_blocks s k k (omega arith) f.blocks) (record {
      slots_apart = sound.slots_apart;
      few_slots = sound.few_slots;
      objects_same = refl;
      targets = each_block s (λ kind o. TargetsIn (ids_of f.blocks) kind) (plain s (TargetsIn (ids_of f.blocks)) (λ v m. tt) (λ p n. tt)) k f.blocks
          sound.targets;
      slots = each_block s (λ kind o. SlotsIn f.slots kind) (slots_pass s f.slots) k f.blocks sound.slots;
      passed = each_block s (λ kind o. KindPassesFirst f.slots kind) (plain s (KindPassesFirst f.slots) (λ v m. tt) (λ p n. tt)) k f.blocks sound.passed;
      objects = each_block s (λ kind o. ObjectsIn f.objects kind) (plain s (ObjectsIn f.objects) (λ v m. tt) (λ p n. tt)) k f.blocks sound.objects;
      pointer = each_block s (λ kind o. LeavesPointer kind) (plain s LeavesPointer (λ v m. tt) (λ p n. tt)) k f.blocks sound.pointer;
      origins = origins_asked s k f.blocks sound.origins;
      fresh = λ n fresh code. (let lt = codes_below k (items_of f.blocks) (all_below k f.blocks below) code.0 n code.1 in omega (arith, fresh, lt));
    })
