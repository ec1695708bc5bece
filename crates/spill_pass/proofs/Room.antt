-- Each store that spilling adds has a position, where what it makes is sound.
use Rattle.std.proofs.Common.{ℕ, ◌<◌, ◌^◌, List, [], ◌∷◌, ◌++◌, map, All, Option, Some, subst, arith}
use Rattle.std.proofs.lemmas.List.Concat.{flat_map-cons}
use Rattle.std.proofs.lemmas.List.Elements.{All-nil, All-cons, All-head, All-tail}
use Rattle.mir_func.specs.declared.block.Block.{Block}
use Rattle.mir_func.specs.declared.item.Item.{Item}
use Rattle.mir_func.specs.declared.item.ItemKind.{ItemKind}
use Rattle.mir_func.specs.declared.item.ItemKind.TheVariants.{Code, Mark, Phi}
use Rattle.mir_func.specs.declared.location.Loc.{Loc}
use Rattle.mir_func.specs.declared.position.Origin.{Origin}
use Rattle.mir_func.specs.Graph.{below}
use Rattle.mir_func.specs.Sound.{OriginIn}
use Rattle.mir_func.specs.Positions.{position_of}
use Rattle.spill_code.specs.declared.spilling.SlotAssignment.{SlotAssignment}
use Rattle.spill_code.specs.declared.spilling.Spilling.{Spilling}
use Rattle.spill_code.specs.Rewrite.{first_defined, spilled_code, added, store, stores, loads_before, kind_items, spilled_item, spilled_items, spilled_block}
use Rattle.spill_code.specs.Rewrite.{entry_stores, first_block, spilled_blocks}
use Rattle.spill_code.specs.Room.{KindHasRoom, HasRoom, HaveRoom}
use Rattle.spill_proof.specs.spill_debug.RewrittenDebugItems.{number_behind, items_asked, blocks_asked}

all_left : {X : Type 0} (P : X → Type 0) (xs ys : List X) → All P (xs ++ ys) → All P xs
all_left P [] ys h = All-nil P
all_left P (x ∷ xs) ys h = All-cons P x xs (All-head P x (xs ++ ys) h) (all_left P xs ys (All-tail P x (xs ++ ys) h))

all_right : {X : Type 0} (P : X → Type 0) (xs ys : List X) → All P (xs ++ ys) → All P ys
all_right P [] ys h = h
all_right P (x ∷ xs) ys h = all_right P xs ys (All-tail P x (xs ++ ys) h)

abbrev IsSmall : Block → Type 0
IsSmall b = b.source_end < 2 ^ 32

abbrev Inside : Block → Item → Type 0
Inside b i = OriginIn b i.origin

abbrev AllInside : Block → Type 0
AllInside b = All (Inside b) b.items

-- marks that ask by phis change no silent index
pub silent_asked : (s : Spilling) (k : ℕ) (bs : List Block) → All (λ (b : Block). b.source_end < 2 ^ 32) bs →
    All (λ (b : Block). b.source_end < 2 ^ 32) (blocks_asked s k bs)
silent_asked s k [] h = All-nil IsSmall
silent_asked s k (b ∷ bs) h =
    All-cons IsSmall (record { id = b.id; items = items_asked s k b.items; source_end = b.source_end })
    (blocks_asked s (number_behind s.homes k b.items) bs) (All-head IsSmall b bs h)
    (silent_asked s (number_behind s.homes k b.items) bs (All-tail IsSmall b bs h))

module _ (s : Spilling) where
  -- the store below code is before a position at most at the silent one
  kind_room : (b : Block) → IsSmall b → (x : ItemKind) (o : Origin) (l : Loc) → All (Inside b) (kind_items s x o l) → KindHasRoom s x o
  kind_room b less (Code i k) o l h = λ n defined.
      (let main : Item = record { kind = Code (spilled_code s i) k; origin = o; loc = l } in
      let behind : List Item = stores (below (position_of o)) s.first (first_defined s.homes i.operands) in
      let all : All (Inside b) behind =
      All-tail (Inside b) main behind (all_right (Inside b) (loads_before s (position_of o) i.operands) (main ∷ behind) h) in
      let one : All (Inside b) (stores (below (position_of o)) s.first (Some n)) =
      subst (λ (z : Option ℕ). All (Inside b) (stores (below (position_of o)) s.first z)) defined all in
      let le = (All-head (Inside b) (added (below (position_of o)) (store s.first n)) [] one).1 in
      omega (arith, less, le))
  kind_room b less (Mark v m) o l h = tt
  kind_room b less (Phi p k) o l h = tt

  items_room : (b : Block) → IsSmall b → (xs : List Item) → All (Inside b) (spilled_items s xs) → All (HasRoom s) xs
  items_room b less [] h = All-nil (HasRoom s)
  items_room b less (x ∷ xs) h =
      let both : All (Inside b) (spilled_item s x ++ spilled_items s xs) = subst (All (Inside b)) (flat_map-cons (spilled_item s) x xs) h in
      All-cons (HasRoom s) x xs (kind_room b less x.kind x.origin x.loc (all_left (Inside b) (spilled_item s x) (spilled_items s xs) both))
      (items_room b less xs (all_right (Inside b) (spilled_item s x) (spilled_items s xs) both))

  abbrev BlockHasRoom : Block → Type 0
  BlockHasRoom b = All (HasRoom s) b.items

  others_room : (bs : List Block) → All IsSmall bs → All AllInside (map (spilled_block s) bs) → HaveRoom s bs
  others_room [] small h = All-nil BlockHasRoom
  others_room (b ∷ bs) small h =
      All-cons BlockHasRoom b bs
      (items_room (spilled_block s b) (All-head IsSmall b bs small) b.items (All-head AllInside (spilled_block s b) (map (spilled_block s) bs) h))
      (others_room bs (All-tail IsSmall b bs small) (All-tail AllInside (spilled_block s b) (map (spilled_block s) bs) h))

  pub have_room : (entry : List SlotAssignment) (bs : List Block) → All (λ (b : Block). b.source_end < 2 ^ 32) bs →
      All (λ (b : Block). All (λ (i : Item). OriginIn b i.origin) b.items) (spilled_blocks s entry bs) → HaveRoom s bs
  have_room entry [] small h = All-nil BlockHasRoom
  have_room entry (b ∷ bs) small h =
      All-cons BlockHasRoom b bs
      (items_room (first_block s entry b) (All-head IsSmall b bs small) b.items
      (all_right (Inside (first_block s entry b)) (entry_stores b.id entry) (spilled_items s b.items)
      (All-head AllInside (first_block s entry b) (map (spilled_block s) bs) h)))
      (others_room bs (All-tail IsSmall b bs small) (All-tail AllInside (first_block s entry b) (map (spilled_block s) bs) h))
