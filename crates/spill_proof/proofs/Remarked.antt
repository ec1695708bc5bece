-- Marks that ask for the numbers of phis right before them, in place of the registers that these phis take. What every function keeps stays.
use Rattle.std.proofs.Common.{◌≡◌, inl, ℕ, ◌+◌, ◌<◌, ◌≤◌, List, [], ◌∷◌, ◌++◌, All, Option, Some, None, refl, sym, ◌∙◌, subst}
use Rattle.std.proofs.lemmas.List.Elements.{All-nil, All-cons, All-head, All-tail}
use Rattle.rv64_instr.specs.declared.place.Place.TheVariants.{Register}
use Rattle.mir_func.specs.declared.block.Block.{Block}
use Rattle.mir_func.specs.declared.item.Item.{Item}
use Rattle.mir_func.specs.declared.item.ItemKind.{ItemKind}
use Rattle.mir_func.specs.declared.item.ItemKind.TheVariants.{Code, Mark, Phi}
use Rattle.mir_func.specs.declared.location.Loc.{Loc}
use Rattle.mir_func.specs.declared.position.Origin.{Origin}
use Rattle.mir_func.specs.declared.position.Origin.TheVariants.{Kept, Before}
use Rattle.mir_func.specs.declared.variable.MarkValue.{MarkValue}
use Rattle.mir_func.specs.declared.variable.MarkValue.TheVariants.{Nothing, Constant, At, Pair}
use Rattle.mir_func.specs.declared.variable.VarId.{VarId}
use Rattle.mir_func.specs.Function.{Function}
use Rattle.mir_func.specs.Sound.{AllItems, ids_of, OriginIn, TargetsIn, SlotsIn, ObjectsIn, LeavesPointer, IsSound, KindPassesFirst}
use Rattle.pass_trait.specs.Rule.{item, item_before, first_operand}
use Rattle.spill_code.specs.declared.spilling.Spilling.{Spilling}
use Rattle.spill_code.specs.Rewrite.{slot_of}
use Rattle.spill_debug.specs.RewrittenDebugItems.{mark_asked, kind_asked, next_number, number_behind, items_asked, blocks_asked}
use Rattle.spill_debug.proofs.AskedSound.{low_next}
use Rattle.spill_debug.proofs.Grown.{IsExtra, IsLike, Grown, none, grows, BlocksGrow, no_blocks, next_block, sound_grown}
use Rattle.spill_proof.proofs.Put.{mark_put, kind_put, items_put, blocks_put, behind_low}

module _ (least : ℕ) where
  -- the items of a block, before and after
  pub data Reasks : List Item → List Item → Type 0 where
    no_items : Reasks [] []
    same : {x : Item} {xs ys : List Item} → Reasks xs ys → Reasks (x ∷ xs) (x ∷ ys)
    asks : {v : VarId} {r k : ℕ} {o : Origin} {l : Loc} {xs ys : List Item} → least ≤ k → Reasks xs ys →
        Reasks (item_before (Phi (Some (Register r)) k) o ∷ item (Mark v (At r)) o l ∷ xs)
        (item_before (Phi (Some (Register r)) k) o ∷ item (Mark v (Pair (first_operand k))) o l ∷ ys)

  -- and the blocks
  pub data BlocksReask : List Block → List Block → Type 0 where
    over : BlocksReask [] []
    further : {a b : Block} {fs gs : List Block} → b.id ≡ a.id → b.source_end ≡ a.source_end → Reasks a.items b.items → BlocksReask fs gs → BlocksReask (a ∷ fs)
        (b ∷ gs)

  module _ (s : Spilling) where
    mark_reasks : (k : ℕ) → least ≤ k → (v : VarId) (r : ℕ) (home : Option ℕ) (o : Origin) (l : Loc) (xs ys : List Item) → Reasks xs ys →
        Reasks (mark_put s k v r home o l ++ xs) (mark_asked s k v r home o l ++ ys)
    mark_reasks k le v r None o l xs ys rest = same rest
    mark_reasks k le v r (Some n) o l xs ys rest = asks {v = v} {r = r} {k = k} {o = o} {l = l} le rest

    kind_reasks : (k : ℕ) → least ≤ k → (kind : ItemKind) (o : Origin) (l : Loc) (xs ys : List Item) → Reasks xs ys →
        Reasks (kind_put s k kind o l ++ xs) (kind_asked s k kind o l ++ ys)
    kind_reasks k le (Code i n) o l xs ys rest = same rest
    kind_reasks k le (Phi p n) o l xs ys rest = same rest
    kind_reasks k le (Mark v Nothing) o l xs ys rest = same rest
    kind_reasks k le (Mark v (Constant n)) o l xs ys rest = same rest
    kind_reasks k le (Mark v (Pair q)) o l xs ys rest = same rest
    kind_reasks k le (Mark v (At r)) o l xs ys rest = mark_reasks k le v r (slot_of s.homes r) o l xs ys rest

    items_reask : (k : ℕ) → least ≤ k → (xs : List Item) → Reasks (items_put s k xs) (items_asked s k xs)
    items_reask k le [] = no_items
    items_reask k le (x ∷ xs) =
        kind_reasks k le x.kind x.origin x.loc (items_put s (next_number s.homes k x.kind) xs) (items_asked s (next_number s.homes k x.kind) xs)
        (items_reask (next_number s.homes k x.kind) (low_next s least k x.kind le) xs)

    pub blocks_reask : (k : ℕ) → least ≤ k → (bs : List Block) → BlocksReask (blocks_put s k bs) (blocks_asked s k bs)
    blocks_reask k le [] = over
    blocks_reask k le (b ∷ bs) = further refl refl (items_reask k le b.items)
        (blocks_reask (number_behind s.homes k b.items) (behind_low s least k b.items le) bs)

  -- ---- from the second to the first

  -- nothing is added
  abbrev NoNumber : ℕ → Type 0
  NoNumber n = ⊥

  no_extra : All (IsExtra NoNumber) []
  no_extra = All-nil (IsExtra NoNumber)

  alone : (x y : Item) (xs ys : List Item) → IsLike NoNumber x y → Grown NoNumber xs ys → Grown NoNumber (x ∷ xs) (y ∷ ys)
  alone x y xs ys like more = grows [] [] no_extra like no_extra (inl refl) (inl refl) more refl

  itself : (x : Item) → IsLike NoNumber x x
  itself x = record { exit = refl; code = refl; number = refl }

  items_grow : (xs ys : List Item) → Reasks xs ys → Grown NoNumber ys xs
  items_grow xs ys no_items = none
  items_grow (x ∷ xs) (y ∷ ys) (same rest) = alone x x ys xs (itself x) (items_grow xs ys rest)
  items_grow (x ∷ z ∷ xs) (y ∷ w ∷ ys) (asks le rest) =
      alone x x (w ∷ ys) (z ∷ xs) (itself x) (alone w z ys xs (record { exit = refl; code = refl; number = refl }) (items_grow xs ys rest))

  blocks_grow : (fs gs : List Block) → BlocksReask fs gs → BlocksGrow NoNumber gs fs
  blocks_grow fs gs over = no_blocks
  blocks_grow (a ∷ fs) (b ∷ gs) (further id source_end items rest) =
      next_block [] a.items (sym id) (sym source_end) no_extra (items_grow a.items b.items items) refl (blocks_grow fs gs rest)

  -- what holds of each item, whatever a mark asks for
  module _ (P : ItemKind → Origin → Type 0) (marks : (v : VarId) (m m' : MarkValue) (o : Origin) → P (Mark v m) o → P (Mark v m') o) where
    abbrev Each : Item → Type 0
    Each i = P i.kind i.origin

    back_items : (xs ys : List Item) → Reasks xs ys → All Each ys → All Each xs
    back_items xs ys no_items h = h
    back_items (x ∷ xs) (y ∷ ys) (same rest) h = All-cons Each x xs (All-head Each x ys h) (back_items xs ys rest (All-tail Each x ys h))
    back_items (x ∷ z ∷ xs) (y ∷ w ∷ ys) (asks {v} {r} {k} {o} {l} le rest) h =
        let later = All-tail Each x (w ∷ ys) h in
        All-cons Each x (z ∷ xs) (All-head Each x (w ∷ ys) h)
        (All-cons Each z xs (marks v (Pair (first_operand k)) (At r) o (All-head Each w ys later)) (back_items xs ys rest (All-tail Each w ys later)))

  module _ (P : ItemKind → Type 0) (marks : (v : VarId) (m : MarkValue) → P (Mark v m)) where
    abbrev Every : Item → Type 0
    Every i = P i.kind

    back_blocks : (fs gs : List Block) → BlocksReask fs gs → AllItems Every gs → AllItems Every fs
    back_blocks fs gs over h = h
    back_blocks (a ∷ fs) (b ∷ gs) (further id source_end items rest) h =
        All-cons (λ (c : Block). All Every c.items) a fs
        (back_items (λ kind o. P kind) (λ v m m' o k. marks v m') a.items b.items items (All-head (λ (c : Block). All Every c.items) b gs h))
        (back_blocks fs gs rest (All-tail (λ (c : Block). All Every c.items) b gs h))

  same_home : (a b : Block) → b.id ≡ a.id → b.source_end ≡ a.source_end → (o : Origin) → OriginIn b o → OriginIn a o
  same_home a b id source_end (Kept p) h = (h.0 ∙ id, subst (λ (n : ℕ). p.item < n) source_end h.1)
  same_home a b id source_end (Before p) h = (h.0 ∙ id, subst (λ (n : ℕ). p.item ≤ n) source_end h.1)

  all_weaker : (P Q : Item → Type 0) → ((x : Item) → P x → Q x) → (xs : List Item) → All P xs → All Q xs
  all_weaker P Q f [] h = All-nil Q
  all_weaker P Q f (x ∷ xs) h = All-cons Q x xs (f x (All-head P x xs h)) (all_weaker P Q f xs (All-tail P x xs h))

  back_origins : (fs gs : List Block) → BlocksReask fs gs → All (λ (b : Block). All (λ (i : Item). OriginIn b i.origin) b.items) gs →
      All (λ (b : Block). All (λ (i : Item). OriginIn b i.origin) b.items) fs
  back_origins fs gs over h = h
  back_origins (a ∷ fs) (b ∷ gs) (further id source_end items rest) h =
      All-cons (λ (c : Block). All (λ (i : Item). OriginIn c i.origin) c.items) a fs
      (all_weaker (λ i. OriginIn b i.origin) (λ i. OriginIn a i.origin) (λ x inside. same_home a b id source_end x.origin inside) a.items
      (back_items (λ kind o. OriginIn b o) (λ v m m' o k. k) a.items b.items items
      (All-head (λ (c : Block). All (λ (i : Item). OriginIn c i.origin) c.items) b gs h)))
      (back_origins fs gs rest (All-tail (λ (c : Block). All (λ (i : Item). OriginIn c i.origin) c.items) b gs h))

  pub sound_back : (g : Function) (fs : List Block) → BlocksReask fs g.blocks → IsSound g → IsSound (record g { blocks = fs })
  sound_back g fs rel sound =
      sound_grown NoNumber g (record g { blocks = fs }) sound (blocks_grow fs g.blocks rel) (record {
        slots_apart = sound.slots_apart;
        few_slots = sound.few_slots;
        objects_same = refl;
        targets = back_blocks (TargetsIn (ids_of g.blocks)) (λ v m. tt) fs g.blocks rel sound.targets;
        slots = back_blocks (SlotsIn g.slots) (λ v m. tt) fs g.blocks rel sound.slots;
        passed = back_blocks (KindPassesFirst g.slots) (λ v m. tt) fs g.blocks rel sound.passed;
        objects = back_blocks (ObjectsIn g.objects) (λ v m. tt) fs g.blocks rel sound.objects;
        pointer = back_blocks LeavesPointer (λ v m. tt) fs g.blocks rel sound.pointer;
        origins = back_origins fs g.blocks rel sound.origins;
        fresh = λ n none code. absurd none;
      })
