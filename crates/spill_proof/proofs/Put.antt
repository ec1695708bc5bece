-- The function in between: phis are put before the marks of spilled registers, which still ask for the registers, and scratch
-- registers tell nothing.
use Rattle.std.proofs.Common.{inr, ℕ, ◌≤◌, List, [], ◌∷◌, ◌++◌, All, Option, Some, None, Bool, true, false, cond, refl}
use Rattle.std.proofs.lemmas.List.Elements.{All-head, All-tail}
use Rattle.rv64_instr.specs.declared.place.Place.{Place}
use Rattle.rv64_instr.specs.declared.place.Place.TheVariants.{Register}
use Rattle.mir_func.specs.declared.block.Block.{Block}
use Rattle.mir_func.specs.declared.item.Item.{Item}
use Rattle.mir_func.specs.declared.item.ItemKind.{ItemKind}
use Rattle.mir_func.specs.declared.item.ItemKind.TheVariants.{Code, Mark, Phi}
use Rattle.mir_func.specs.declared.location.Loc.{Loc}
use Rattle.mir_func.specs.declared.position.Origin.{Origin}
use Rattle.mir_func.specs.declared.variable.MarkValue.TheVariants.{Nothing, Constant, At, Pair}
use Rattle.mir_func.specs.declared.variable.VarId.{VarId}
use Rattle.mir_func.specs.Function.{Function}
use Rattle.mir_func.specs.Sound.{AllItems}
use Rattle.pass_trait.specs.Rule.{item, item_before}
use Rattle.spill_code.specs.declared.spilling.Spilling.{Spilling}
use Rattle.spill_code.specs.Rewrite.{slot_of}
use Rattle.spill_debug.specs.RewrittenDebugItems.{is_scratch, is_scratch_place, value_left, place_left, next_number, number_behind}
use Rattle.spill_debug.proofs.AskedSound.{low_next}
use Rattle.pass_salvage.proofs.Kin.{mark_kin, phi_kin, kin_itself}
use Rattle.pass_salvage.proofs.Edits.{Edits, Edited, over, pair, put, BlocksEdited, no_blocks, next_block}
use Rattle.spill_proof.proofs.Low.{Low}

module _ (s : Spilling) where
  abbrev pub mark_put : (k : ℕ) → VarId → (r : ℕ) → (home : Option ℕ) → Origin → Loc → List Item
  mark_put k v r None o l = item (Mark v (value_left s r)) o l ∷ []
  mark_put k v r (Some n) o l = item_before (Phi (Some (Register r)) k) o ∷ item (Mark v (At r)) o l ∷ []

  abbrev pub kind_put : (k : ℕ) → ItemKind → Origin → Loc → List Item
  kind_put k (Code i n) o l = item (Code i n) o l ∷ []
  kind_put k (Phi p n) o l = item (Phi (place_left s p) n) o l ∷ []
  kind_put k (Mark v (At r)) o l = mark_put k v r (slot_of s.homes r) o l
  kind_put k (Mark v Nothing) o l = item (Mark v Nothing) o l ∷ []
  kind_put k (Mark v (Constant n)) o l = item (Mark v (Constant n)) o l ∷ []
  kind_put k (Mark v (Pair q)) o l = item (Mark v (Pair q)) o l ∷ []

  abbrev pub items_put : (k : ℕ) → List Item → List Item
  items_put k [] = []
  items_put k (x ∷ xs) = kind_put k x.kind x.origin x.loc ++ items_put (next_number s.homes k x.kind) xs

  abbrev pub blocks_put : (k : ℕ) → List Block → List Block
  blocks_put k [] = []
  blocks_put k (b ∷ bs) = record { id = b.id; items = items_put k b.items; source_end = b.source_end } ∷ blocks_put (number_behind s.homes k b.items) bs

  abbrev pub with_phis : (k : ℕ) → Function → Function
  with_phis k f = record f { blocks = blocks_put k f.blocks }

-- how an item is edited: it stays, or gives nothing
pub data IsPut (least : ℕ) : Item → Item → Type 0 where
  same : {x : Item} → Low least x.kind → IsPut least x x
  silent_mark : {v : VarId} {r : ℕ} {o : Origin} {l : Loc} → IsPut least (item (Mark v (At r)) o l) (item (Mark v Nothing) o l)
  silent_phi : {p : Place} {n : ℕ} {o : Origin} {l : Loc} → IsPut least (item (Phi (Some p) n) o l) (item (Phi None n) o l)

-- a phi with a fresh number
pub data IsPhi (least : ℕ) : Item → Type 0 where
  puts : {p : Option Place} {k : ℕ} (o : Origin) → least ≤ k → IsPhi least (item_before (Phi p k) o)

abbrev pub put_edits : (least : ℕ) → Edits
put_edits least = record {
  Stage = Unit {0};
  entry = λ n. tt;
  IsOver = λ k. Unit {0};
  Pair = λ k k' x y. IsPut least x y;
  Out = λ k k' x. ⊥;
  Put = λ k k' y. IsPhi least y;
}

module _ (s : Spilling) (least : ℕ) where
  abbrev Rest : List Item → List Item → Type 0
  Rest xs ys = Edited (put_edits least) tt xs ys

  stays : (kind : ItemKind) (o : Origin) (l : Loc) (xs ys : List Item) → Low least kind → Rest xs ys → Rest (item kind o l ∷ xs) (item kind o l ∷ ys)
  stays kind o l xs ys low rest = pair {k' = tt} refl (kin_itself kind) (same low) rest

  source_end : (v : VarId) (r : ℕ) (z : Bool) (o : Origin) (l : Loc) (xs ys : List Item) → Rest xs ys →
      Rest (item (Mark v (At r)) o l ∷ xs) (item (Mark v (cond z Nothing (At r))) o l ∷ ys)
  source_end v r true o l xs ys rest = pair {k' = tt} refl (mark_kin (inr refl)) silent_mark rest
  source_end v r false o l xs ys rest = stays (Mark v (At r)) o l xs ys tt rest

  phi_silent : (p : Place) (n : ℕ) (z : Bool) (o : Origin) (l : Loc) (xs ys : List Item) → Low least (Phi (Some p) n) → Rest xs ys →
      Rest (item (Phi (Some p) n) o l ∷ xs) (item (Phi (cond z None (Some p)) n) o l ∷ ys)
  phi_silent p n true o l xs ys low rest = pair {k' = tt} refl phi_kin silent_phi rest
  phi_silent p n false o l xs ys low rest = stays (Phi (Some p) n) o l xs ys low rest

  mark_edited : (k : ℕ) → least ≤ k → (v : VarId) (r : ℕ) (home : Option ℕ) (o : Origin) (l : Loc) (xs ys : List Item) → Rest xs ys →
      Rest (item (Mark v (At r)) o l ∷ xs) (mark_put s k v r home o l ++ ys)
  mark_edited k le v r None o l xs ys rest = source_end v r (is_scratch s r) o l xs ys rest
  mark_edited k le v r (Some n) o l xs ys rest = put {k' = tt} refl refl (puts o le) (stays (Mark v (At r)) o l xs ys tt rest)

  kind_edited : (k : ℕ) → least ≤ k → (kind : ItemKind) (o : Origin) (l : Loc) (xs ys : List Item) → Low least kind → Rest xs ys →
      Rest (item kind o l ∷ xs) (kind_put s k kind o l ++ ys)
  kind_edited k le (Code i n) o l xs ys low rest = stays (Code i n) o l xs ys low rest
  kind_edited k le (Phi None n) o l xs ys low rest = stays (Phi None n) o l xs ys low rest
  kind_edited k le (Phi (Some p) n) o l xs ys low rest = phi_silent p n (is_scratch_place s p) o l xs ys low rest
  kind_edited k le (Mark v Nothing) o l xs ys low rest = stays (Mark v Nothing) o l xs ys low rest
  kind_edited k le (Mark v (Constant n)) o l xs ys low rest = stays (Mark v (Constant n)) o l xs ys low rest
  kind_edited k le (Mark v (Pair q)) o l xs ys low rest = stays (Mark v (Pair q)) o l xs ys low rest
  kind_edited k le (Mark v (At r)) o l xs ys low rest = mark_edited k le v r (slot_of s.homes r) o l xs ys rest

  items_edited : (k : ℕ) → least ≤ k → (xs : List Item) → All (λ (i : Item). Low least i.kind) xs → Rest xs (items_put s k xs)
  items_edited k le [] low = over tt
  items_edited k le (x ∷ xs) low =
      kind_edited k le x.kind x.origin x.loc xs (items_put s (next_number s.homes k x.kind) xs) (All-head (λ (i : Item). Low least i.kind) x xs low)
      (items_edited (next_number s.homes k x.kind) (low_next s least k x.kind le) xs (All-tail (λ (i : Item). Low least i.kind) x xs low))

  pub behind_low : (k : ℕ) (xs : List Item) → least ≤ k → least ≤ number_behind s.homes k xs
  behind_low k [] le = le
  behind_low k (x ∷ xs) le = behind_low (next_number s.homes k x.kind) xs (low_next s least k x.kind le)

  pub blocks_edited : (k : ℕ) → least ≤ k → (bs : List Block) → AllItems (λ i. Low least i.kind) bs → BlocksEdited (put_edits least) bs (blocks_put s k bs)
  blocks_edited k le [] low = no_blocks
  blocks_edited k le (b ∷ bs) low =
      next_block refl refl (items_edited k le b.items (All-head (λ (c : Block). All (λ (i : Item). Low least i.kind) c.items) b bs low))
      (blocks_edited (number_behind s.homes k b.items) (behind_low k b.items le) bs
      (All-tail (λ (c : Block). All (λ (i : Item). Low least i.kind) c.items) b bs low))
