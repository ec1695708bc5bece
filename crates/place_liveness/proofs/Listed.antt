-- The indices of the blocks to which control may go.
use Rattle.std.proofs.Common.{◌≡◌, ℕ, ◌+◌, ◌<◌, ◌≤◌, List, [], ◌∷◌, ◌++◌, length, get_or, Option, Some, None, refl, sym, ap, ◌∙◌, inl, inr, arith, subst}
use Rattle.std.specs.Prelude.{◌⊎◌, ◌↔◌, Bool, false, slice_get, Contains}
use Rattle.std.proofs.lemmas.Bool.{cases_eq, cases_lt}
use Rattle.std.proofs.lemmas.List.{get_or_push, get_or_append_left, get_or_default, get_or_past, length_push}
use Rattle.std.proofs.lemmas.List.Elements.{Contains-push, Contains-get_or}
use Rattle.std.proofs.lemmas.Option.{get_or_from_slice_get}
use Rattle.graph_spread.specs.dataflow.Graph.{ways_at, IsEdge, ArePredecessors}
use Rattle.graph_spread.proofs.dataflow.Preds.{none_in}
use Rattle.pass_liveness.specs.mir_func.declared.block.Block.{Block}
use Rattle.pass_liveness.specs.mir_func.declared.debug_substitution.OperandPair.{OperandPair}
use Rattle.pass_liveness.specs.mir_func.declared.item.Item.{Item}
use Rattle.pass_liveness.specs.mir_func.Graph.{program_of}
use Rattle.pass_liveness.specs.mir_func.Sound.{AreApart, ids_of}
use Rattle.pass_liveness.specs.mir_func.Successors.{GoesTo, ways}
use Rattle.pass_liveness.specs.Index.{index_in}
use Rattle.pass_liveness.proofs.Blocks.{items_at_is}
use Rattle.pass_liveness.proofs.mir_func.Ways.{block_ways, contains_first, contains_cases, contains_none}
use Rattle.place_liveness.specs.Alone.{AreListed, AreWaysDown, AreWaysUp, ways_of}
use Rattle.place_liveness.proofs.Lives.{block_at}

some_is : (a b : ℕ) → Some a ≡ Some b → a ≡ b
some_is a b e = cc

none_some : (a : ℕ) → None ≡ Some a → ⊥
none_some a e = cc

only : (m n : ℕ) → Contains (m ∷ []) n → m ≡ n
only m n at = elim (contains_cases m n [] at) [ inl same ↦ same | inr rest ↦ absurd (contains_none n rest) ]

-- a block that there isn't
pub listed_none : (ids : List ℕ) (n : ℕ) (new : List ℕ) → None ≡ index_in ids n → AreListed ids (n ∷ []) new
listed_none ids n new none k m at e = absurd (none_some m (none ∙ (ap (λ (v : ℕ). index_in ids v) (only n k at) ∙ e)))

-- a block that was found
pub listed_one : (ids : List ℕ) (n found : ℕ) (old new : List ℕ) → Some found ≡ index_in ids n → new ≡ old ++ found ∷ [] → AreListed ids (n ∷ []) new
listed_one ids n found old new there is k m at e =
    let here : found ≡ m = some_is found m (there ∙ (ap (λ (v : ℕ). index_in ids v) (only n k at) ∙ e)) in
    subst (λ (zs : List ℕ). Contains zs m) (sym is) (subst (λ (v : ℕ). Contains (old ++ found ∷ []) v) here (Contains-push old found))

-- one block and another
pub listed_two : (ids : List ℕ) (m n : ℕ) (a b : List ℕ) → AreListed ids (m ∷ []) a → ((k : ℕ) → Contains a k → Contains b k) → AreListed ids (n ∷ []) b →
    AreListed ids (m ∷ n ∷ []) b
listed_two ids m n a b first kept second k j at e = elim (contains_cases m k (n ∷ []) at) [
  | inl same ↦ kept j (first k j (contains_first m k [] same) e)
  | inr rest ↦ second k j rest e
]

-- the ways from a block's items are the blocks to which control may go from it
ways_go : (blocks : List Block) (b : ℕ) → AreApart (ids_of blocks) → b < length blocks → (sp : Bool) (resolve : OperandPair → Option OperandPair) (n : ℕ) →
    Contains (ways_of blocks b) n → GoesTo (program_of sp blocks resolve) (get_or (ids_of blocks) b 0) n
ways_go blocks b apart inside sp resolve n =
    let (c, at) = block_at blocks b inside in
    let next = slice_get (ids_of blocks) (b + 1) in
    (block_ways blocks b c next (ways_of blocks b) apart inside (sym (get_or_from_slice_get blocks b c c at)) refl
    (ap (λ (is : List Item). ways is next) (items_at_is blocks b c at)) sp resolve n).0

-- the lists of the first blocks, one after another
pub record Listing (blocks : List Block) (count : ℕ) (down : List (List ℕ)) : Type 0 where
  pub long : length down ≡ count
  pub each : (b : ℕ) → b < count → AreListed (ids_of blocks) (ways_of blocks b) (ways_at down b)

pub listing_none : (blocks : List Block) (down : List (List ℕ)) → down ≡ [] → Listing blocks 0 down
listing_none blocks down none = record { long = ap length none; each = λ b lt. absurd (omega (arith, lt)) }

pub listing_more : (blocks : List Block) (count : ℕ) (down new : List (List ℕ)) (indices ns : List ℕ) → AreApart (ids_of blocks) → count < length blocks →
    new ≡ down ++ indices ∷ [] → AreListed (ids_of blocks) ns indices →
    ((sp : Bool) (resolve : OperandPair → Option OperandPair) (n : ℕ) →
    Contains ns n ↔ GoesTo (program_of sp blocks resolve) (get_or (ids_of blocks) count 0) n) →
    Listing blocks count down → Listing blocks (count + 1) new
listing_more blocks count down new indices ns apart inside is listed goes h = record {
  long = ap length is ∙ (length_push down indices ∙ ap (λ (k : ℕ). k + 1) h.long);
  each = λ b lt. subst (λ (ds : List (List ℕ)). AreListed (ids_of blocks) (ways_of blocks b) (ways_at ds b)) (sym is) (by_place b (cases_eq b count) lt);
} where
  here : AreListed (ids_of blocks) (ways_of blocks count) indices
  here n m at = listed n m ((goes false (λ q. None) n).1 (ways_go blocks count apart inside false (λ q. None) n at))

  by_place : (b : ℕ) → (b ≡ count) ⊎ (b ≡ count → ⊥) → b < count + 1 → AreListed (ids_of blocks) (ways_of blocks b) (ways_at (down ++ indices ∷ []) b)
  by_place b (inl e) lt =
      subst (λ (k : ℕ). AreListed (ids_of blocks) (ways_of blocks k) (ways_at (down ++ indices ∷ []) k)) (sym e)
      (subst (λ (zs : List ℕ). AreListed (ids_of blocks) (ways_of blocks count) zs) (sym (get_or_push down indices [] count h.long)) here)
  by_place b (inr ne) lt =
      let below : b < count = omega (arith, lt, ne) in
      subst (λ (zs : List ℕ). AreListed (ids_of blocks) (ways_of blocks b) zs)
      (sym (get_or_append_left down (indices ∷ []) [] b (omega (arith, below, h.long)))) (h.each b below)

pub listing_all : (blocks : List Block) (count : ℕ) (down : List (List ℕ)) → count ≡ length blocks → Listing blocks count down → AreWaysDown blocks down
listing_all blocks count down all h = record { long = h.long ∙ all; each = λ b lt. h.each b (omega (arith, lt, all)) }

-- ---- from below

edge_from : (down : List (List ℕ)) (p b : ℕ) → IsEdge down p b → p < length down
edge_from down p b edge = by_test (cases_lt p (length down)) where
  by_test : (p < length down) ⊎ (length down ≤ p) → p < length down
  by_test (inl lt) = lt
  by_test (inr le) = absurd (none_in b (subst (λ (zs : List ℕ). Contains zs b) (get_or_past down p [] le) edge))

pub turned_up : (blocks : List Block) (down up : List (List ℕ)) → AreWaysDown blocks down → ArePredecessors down up → AreWaysUp blocks up
turned_up blocks down up d preds = record {
  long = preds.long ∙ d.long;
  graph = λ k e lt j i less. within k j i (subst (λ (zs : List ℕ). j < length zs) (get_or_default up k e [] lt) less)
      (ap (λ (zs : List ℕ). get_or zs j i) (get_or_default up k e [] lt));
  each = λ b n m inside way index. (preds.each m b).1 (d.each b inside n m way index);
} where
  within : (k j i : ℕ) → j < length (ways_at up k) → {v : ℕ} → v ≡ get_or (ways_at up k) j i → v < length up
  within k j i less {v} is =
      let p = get_or (ways_at up k) j i in
      let inside : p < length down = edge_from down p k ((preds.each k p).0 (Contains-get_or (ways_at up k) j i less)) in
      omega (arith, is, inside, preds.long)
