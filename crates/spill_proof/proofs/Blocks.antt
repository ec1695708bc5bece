-- What becomes of the blocks.
use Rattle.std.proofs.Common.{◌≡◌, ℕ, suc, ◌+◌, ◌<◌, List, [], ◌∷◌, ◌++◌, map, take, drop, Option, Some, None, Bool, refl, sym, ap, ◌∙◌, subst}
use Rattle.std.proofs.lemmas.List.Elements.{All-nil}
use Rattle.std.proofs.lemmas.Grind.{flat_map-append}
use Rattle.rv64_instr.specs.declared.place.Place.{Place}
use Rattle.rv64_instr.specs.declared.place.Place.TheVariants.{Register, Slot, Const}
use Rattle.rv64_instr.specs.Instruction.{Instruction}
use Rattle.mir_func.specs.declared.block.Block.{Block}
use Rattle.mir_func.specs.declared.debug_substitution.DebugSubstitution.{DebugSubstitution}
use Rattle.mir_func.specs.declared.item.Item.{Item}
use Rattle.mir_func.specs.declared.item.ItemKind.{ItemKind}
use Rattle.mir_func.specs.declared.item.ItemKind.TheVariants.{Code, Mark, Phi}
use Rattle.mir_func.specs.declared.location.Loc.{Loc}
use Rattle.mir_func.specs.declared.position.Origin.{Origin}
use Rattle.mir_func.specs.declared.position.Origin.TheVariants.{Before}
use Rattle.mir_func.specs.declared.position.Pos.{Pos}
use Rattle.mir_func.specs.declared.variable.MarkValue.{MarkValue}
use Rattle.mir_func.specs.declared.variable.MarkValue.TheVariants.{Nothing, Constant, At, Pair}
use Rattle.mir_func.specs.Function.{Function}
use Rattle.mir_func.specs.Graph.{Here, block_start}
use Rattle.mir_func.specs.Sound.{AreApart, ids_of, items_of}
use Rattle.pass_trait.specs.declared.loss.Loss.{Loss}
use Rattle.pass_trait.specs.Debug.{ValueStays, PlaceStays, IsKillAt, Becomes, mark_stays, phi_stays, code_stays, code_unnumbered}
use Rattle.pass_trait.specs.Debug.{BecomeAll, over, next, added_at_start, BlocksBecome, none, stays as block_stays}
use Rattle.pass_trait.specs.Change.{Change, change}
use Rattle.pass_trait.specs.Rule.{Rule, StandsAt, item}
use Rattle.pass_trait.specs.Sizes.{greatest_number}
use Rattle.spill_code.specs.declared.spilling.SlotAssignment.{SlotAssignment}
use Rattle.spill_code.specs.declared.spilling.Spilling.{Spilling}
use Rattle.spill_code.specs.Rewrite.{slot_of, store, added, spilled_item, spilled_items, spilled_block, entry_stores, spilled_blocks}
use Rattle.spill_debug.specs.RewrittenDebugItems.{kind_asked, next_number, number_behind, items_asked, blocks_asked}
use Rattle.spill_select.specs.spill_rule.Choice.{homes_of, first_scratch, second_scratch, spilling_of, entry_of}
use Rattle.spill_debug.specs.Lost.{LosesScratch}
use Rattle.pass_trait.specs.Causes.{scratch_of}
use Rattle.spill_select.specs.spill_rule.Rule.{Decides}
use Rattle.spill_proof.specs.Whole.{spilled_by, where_spilled, whole}
use Rattle.spill_proof.specs.Step.{AsksForHome, spill_debug}
use Rattle.spill_proof.specs.Become.{ItemsBecome}
use Rattle.spill_proof.proofs.Agree.{homes_same}
use Rattle.spill_proof.proofs.Ruled.{IsRuled}
use Rattle.spill_proof.proofs.Places.{IsLeftOf, at_first, further, stands, number_is, drop_next, number_next}
use Rattle.spill_proof.proofs.More.{count, Grows, Adds, in_more, one_added, more_first, more_behind, more_in, more_later, more_stored}
use Rattle.spill_proof.proofs.More.{more_in_first, more_after_first}
use Rattle.spill_proof.proofs.Items.{kind_all}

module _ (rule : Rule) (f : Function) (subs : List DebugSubstitution) (new : Function) (s : Spilling) (first : ℕ)
    (ruled : IsRuled rule (change f subs new subs) s first) where
  abbrev c : Change
  c = change f subs new subs

  abbrev homes : List SlotAssignment
  homes = s.homes

  abbrev Left : ℕ → List Block → Type 0
  Left k bs = IsLeftOf homes first f.blocks k bs

  -- ---- where registers are spilled

  module _ (some : homes ≡ [] → ⊥) where
    items_all : (m : ℕ) (b : Block) (bs : List Block) → Left m (b ∷ bs) → (n : ℕ) (xs : List Item) → drop n b.items ≡ xs → (k : ℕ) →
        k ≡ number_behind homes m (take n b.items) → Grows c (spilled_items s (items_asked s k xs)) xs →
        BecomeAll rule c b.id n xs (spilled_items s (items_asked s k xs))
    items_all m b bs h n [] e k is more = over
    items_all m b bs h n (x ∷ xs) e k is more =
        let later : ℕ = next_number homes k x.kind in
        let here : List Item = kind_asked s k x.kind x.origin x.loc in
        let rest : List Item = items_asked s later xs in
        subst (BecomeAll rule c b.id n (x ∷ xs)) (sym (flat_map-append (spilled_item s) here rest))
        (kind_all rule f subs new s first ruled b.id n xs some k x.kind x.origin x.loc (spilled_items s rest)
        (stands homes first f.blocks m b bs h n x xs e) (is ∙ sym (number_is homes first f.blocks m b bs h n))
        (λ o lt. more o (more_first s o k x xs lt))
        (items_all m b bs h (suc n) xs (drop_next b.items n x xs e) later
        (ap (λ (z : ℕ). next_number homes z x.kind) is ∙ sym (number_next homes m b.items n x xs e))
        (λ o lt. more o (more_behind s o k x xs lt))))

    drop_none : (xs : List Item) → drop 0 xs ≡ xs
    drop_none [] = refl
    drop_none (x ∷ xs) = refl

    take_none : (m : ℕ) (xs : List Item) → m ≡ number_behind homes m (take 0 xs)
    take_none m [] = refl
    take_none m (x ∷ xs) = refl

    others_become : (m : ℕ) (bs : List Block) → Left m bs → Grows c (items_of (map (spilled_block s) (blocks_asked s m bs))) (items_of bs) →
        BlocksBecome rule c bs (map (spilled_block s) (blocks_asked s m bs))
    others_become m [] h more = none
    others_become m (b ∷ bs) h more =
        block_stays [] (spilled_items s (items_asked s m b.items)) refl refl refl (ruled.no_kills b.id) (All-nil (IsKillAt rule c b.id))
        (items_all m b bs h 0 b.items (drop_none b.items) m (take_none m b.items) (λ o lt. more o (more_in s o m b bs lt)))
        (others_become (number_behind homes m b.items) bs (further homes first f.blocks m b bs h) (λ o lt. more o (more_later s o m b bs lt)))

    add_entry : (b : ℕ) (entry : List SlotAssignment) (xs ys : List Item) → Adds c (entry_stores b entry) → BecomeAll rule c b 0 xs ys →
        BecomeAll rule c b 0 xs (entry_stores b entry ++ ys)
    add_entry b [] xs ys more h = h
    add_entry b (e ∷ es) xs ys more h =
        let here : Instruction = store e.register e.slot in
        added_at_start (more (Before (block_start b)) (one_added (block_start b) here (entry_stores b es)))
        (add_entry b es xs ys (λ o lt. more o (in_more o (added (block_start b) here) (entry_stores b es) lt)) h)

    spilled_become : (entry : List SlotAssignment) (bs : List Block) → Left first bs →
        Grows c (items_of (spilled_blocks s entry (blocks_asked s first bs))) (items_of bs) →
        BlocksBecome rule c bs (spilled_blocks s entry (blocks_asked s first bs))
    spilled_become entry [] h more = none
    spilled_become entry (b ∷ bs) h more =
        block_stays [] (entry_stores b.id entry ++ spilled_items s (items_asked s first b.items)) refl refl refl (ruled.no_kills b.id) (All-nil (IsKillAt rule c b.id))
        (add_entry b.id entry b.items (spilled_items s (items_asked s first b.items)) (λ o lt. more o (more_stored s o entry first b bs lt))
        (items_all first b bs h 0 b.items (drop_none b.items) first (take_none first b.items) (λ o lt. more o (more_in_first s o entry first b bs lt))))
        (others_become (number_behind homes first b.items) bs (further homes first f.blocks first b bs h)
        (λ o lt. more o (more_after_first s o entry first b bs lt)))

  -- ---- where none is

  module _ (empty : homes ≡ []) where
    nothing_lost : (at : Pos) (loss : Loss) → rule.loses c at loss → ⊥
    nothing_lost = ruled.none_lost empty

    nothing_numbered : (at : Pos) (n : ℕ) → rule.numbers c at n → ⊥
    nothing_numbered = ruled.none_numbered empty

    no_slot : (r : ℕ) → slot_of homes r ≡ None
    no_slot r = ap (λ (hs : List SlotAssignment). slot_of hs r) empty

    value_stays : (m : MarkValue) → ValueStays rule c m
    value_stays Nothing = tt
    value_stays (Constant z) = tt
    value_stays (At r) = ruled.register_stays r (no_slot r)
    value_stays (Pair q) = tt

    place_stays : (p : Option Place) → PlaceStays rule c p
    place_stays None = tt
    place_stays (Some (Register r)) = ruled.register_stays r (no_slot r)
    place_stays (Some (Slot n)) = tt
    place_stays (Some (Const z)) = tt

    becomes : (at : Pos) (k : ItemKind) (o : Origin) (l : Loc) → Becomes rule c at (item k o l) (item k o l ∷ [])
    becomes at (Mark v m) o l = mark_stays (λ why h. nothing_lost at _ h) (value_stays m)
    becomes at (Phi p k) o l = phi_stays (λ why h. nothing_lost at _ h) (place_stays p)
    becomes at (Code i None) o l = code_unnumbered (λ k h. nothing_numbered at k h)
    becomes at (Code i (Some k)) o l = code_stays (λ why h. nothing_lost at _ h)

    items_stay : (block n : ℕ) (xs : List Item) → BecomeAll rule c block n xs xs
    items_stay block n [] = over
    items_stay block n (x ∷ xs) = next (becomes (record { block = block; item = n }) x.kind x.origin x.loc) (items_stay block (suc n) xs)

    blocks_stay : (bs : List Block) → BlocksBecome rule c bs bs
    blocks_stay [] = none
    blocks_stay (b ∷ bs) = block_stays [] b.items refl refl refl (ruled.no_kills b.id) (All-nil (IsKillAt rule c b.id)) (items_stay b.id 0 b.items) (blocks_stay bs)

  -- ---- both

  pub all_become : (entry : List SlotAssignment) → AreApart (ids_of f.blocks) →
      new ≡ where_spilled homes f (spilled_by s entry first f) → BlocksBecome rule c f.blocks (where_spilled homes f (spilled_by s entry first f)).blocks
  all_become entry apart made = by_homes homes refl where
    by_homes : (hs : List SlotAssignment) → homes ≡ hs → BlocksBecome rule c f.blocks (where_spilled hs f (spilled_by s entry first f)).blocks
    by_homes [] e = blocks_stay e f.blocks
    by_homes (h ∷ hs) e =
        spilled_become (λ none. (let bad : h ∷ hs ≡ [] = sym e ∙ none in cc)) entry f.blocks (at_first homes first f.blocks apart) grows where
          new_is : (spilled_by s entry first f).blocks ≡ new.blocks
          new_is = ap (λ (zs : List SlotAssignment). (where_spilled zs f (spilled_by s entry first f)).blocks) (sym e) ∙ ap (λ (g : Function). g.blocks) (sym made)

          grows : Grows c (items_of (spilled_by s entry first f).blocks) (items_of f.blocks)
          grows o lt = subst (λ (bs : List Block). count o (items_of f.blocks) < count o (items_of bs)) new_is lt

-- ---- spilling

module _ (reserve : List ℕ) (live : ℕ → Bool) (f : Function) (subs : List DebugSubstitution) (new : Function) (decides : Decides reserve f live) where
  abbrev pub spill_change : Change
  spill_change = change f subs new subs

  abbrev pub spill_rule : Rule
  spill_rule = spill_debug reserve

  same_choice : (live' : ℕ → Bool) → Decides reserve f live' → spilling_of reserve live' f ≡ spilling_of reserve live f
  same_choice live' d i = record {
    first = first_scratch (scratch_of f);
    second = second_scratch (scratch_of f);
    homes = homes_same reserve f live' live d decides i;
  }

  same_item : (at : Pos) (x y : Item) → StandsAt f at x → StandsAt f at y → x ≡ y
  same_item at x y h k = (let e : Here x ≡ Here y = sym h ∙ k in cc)

  lost_by : (at : Pos) (x : ItemKind) (o : Origin) (l : Loc) (loss : Loss) → StandsAt f at (item x o l) → spill_rule.loses spill_change at loss →
      LosesScratch (spilling_of reserve live f) x o loss
  lost_by at x o l loss there (live', h) =
      let is : h.item ≡ item x o l = same_item at h.item (item x o l) h.stands there in
      subst (λ (t : Spilling). LosesScratch t x o loss) (same_choice live' h.decides)
      (subst (λ (i : Item). LosesScratch (spilling_of reserve live' f) i.kind i.origin loss) is h.lost)

  not_numbered : (at : Pos) (x : ItemKind) (o : Origin) (l : Loc) → StandsAt f at (item x o l) → (AsksForHome (homes_of reserve live f) x → ⊥) → (n : ℕ) →
      spill_rule.numbers spill_change at n → ⊥
  not_numbered at x o l there asked n (live', h) =
      let is : h.item ≡ item x o l = same_item at h.item (item x o l) h.stands there in
      asked (subst (λ (hs : List SlotAssignment). AsksForHome hs x) (homes_same reserve f live' live h.decides decides)
      (subst (λ (i : Item). AsksForHome (homes_of reserve live' f) i.kind) is h.asks))

  no_home : (x : ItemKind) → AsksForHome [] x → ⊥
  no_home (Mark v (At r)) (slot, e) = cc
  no_home (Mark v Nothing) h = h
  no_home (Mark v (Constant z)) h = h
  no_home (Mark v (Pair q)) h = h
  no_home (Code i k) h = h
  no_home (Phi p k) h = h

  -- spilling is ruled so
  pub spill_is_ruled : IsRuled spill_rule spill_change (spilling_of reserve live f) (greatest_number f subs + 1)
  spill_is_ruled = record {
    loses_by = lost_by;
    silenced = λ some at x o l loss there lost. (live, record { decides = decides; some = some; item = item x o l; stands = there; lost = lost });
    none_lost = λ empty at loss (live', h). h.some (homes_same reserve f live' live h.decides decides ∙ empty);
    no_number = not_numbered;
    numbered = λ at x o l n there asks is. (live, record { decides = decides; item = item x o l; stands = there; asks = asks; is = is });
    none_numbered = λ empty at n (live', h). no_home h.item.kind
        (subst (λ (hs : List SlotAssignment). AsksForHome hs h.item.kind) (homes_same reserve f live' live h.decides decides ∙ empty) h.asks);
    register_stays = λ r homeless. (
      λ slot (live', d, e). (let bad : ◌≡◌ {A = Option ℕ} None (Some slot) = sym homeless ∙
          ap (λ (hs : List SlotAssignment). slot_of hs r) (sym (homes_same reserve f live' live d decides)) ∙ e in cc),
      λ now h. h,
    );
    spilled_at = λ r slot e. (live, decides, e);
    no_kills = λ block. refl;
  }

pub items_become : ItemsBecome
items_become reserve live f subs sound decides =
    let k : ℕ = greatest_number f subs + 1 in
    let now : Function = whole reserve live k f in
    all_become (spill_debug reserve) f subs now (spilling_of reserve live f) k (spill_is_ruled reserve live f subs now decides)
    (entry_of live (homes_of reserve live f)) sound.blocks_apart refl
