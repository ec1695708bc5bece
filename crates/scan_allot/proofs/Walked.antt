-- The walk over items and blocks.
use Rattle.std.proofs.Common.{◌≡◌, ◌↔◌, ℕ, zero, suc, ◌+◌, ◌<◌, ◌≤◌, List, [], ◌∷◌, ◌++◌, drop, map, length, get_or, Option, Some, Bool, Contains}
use Rattle.std.proofs.Common.{refl, sym, ap, ◌∙◌, append_assoc, subst, arith}
use Rattle.std.specs.Prelude.{slice_get}
use Rattle.rv64_instr.specs.declared.place.Place.{Place}
use Rattle.mir_func.specs.declared.block.Block.{Block}
use Rattle.mir_func.specs.declared.item.Item.{Item}
use Rattle.mir_func.specs.declared.item.ItemKind.{ItemKind}
use Rattle.mir_func.specs.declared.position.Pos.{Pos}
use Rattle.mir_func.specs.Function.{Function}
use Rattle.mir_func.specs.Sound.{IsSound, ids_of}
use Rattle.mir_func.specs.Successors.{pos_in}
use Rattle.pass_trait.specs.declared.loss.Loss.{Loss}
use Rattle.pass_liveness.specs.Sets.{has}
use Rattle.pass_liveness.proofs.Blocks.{from_block-at}
use Rattle.scan_debug.specs.scan_rule.Rewrite.{kind_now, item_now, items_now, block_now, blocks_now}
use Rattle.scan_stale.specs.Flow.{Places, stale_next, stale_at}
use Rattle.scan_stale.specs.Sets.{start_in, stale_in, stale_of, StaleSets, starts_of}
use Rattle.scan_stale.proofs.Steps.{step_at}
use Rattle.scan_stale.proofs.Visits.{starts_are}
use Rattle.scan_allot.specs.Silent.{is_silent, silent_along, silent_by}
use Rattle.scan_allot.specs.Losses.{lost_kind, lost_items, lost_blocks}

-- tests that agree along a block rewrite its items alike
module _ (given : ℕ → Option ℕ) (S T : Pos → ℕ → Bool) (b : ℕ) (same : (n r : ℕ) → S (pos_in b n) r ≡ T (pos_in b n) r) where
  pub same_items : (n : ℕ) (is : List Item) → items_now given S b n is ≡ items_now given T b n is
  same_items n [] = refl
  same_items n (i ∷ is) =
      let more = same_items (n + 1) is in
      λ t. record { kind = kind_now given (λ r. same n r t) i.kind; origin = i.origin; loc = i.loc } ∷ more t

  pub same_lost : (n : ℕ) (is : List Item) → lost_items S b n is ≡ lost_items T b n is
  same_lost n [] = refl
  same_lost n (i ∷ is) = let more = same_lost (n + 1) is in λ t. lost_kind (λ r. same n r t) i.kind i.origin ++ more t

drop_item : (is : List Item) (k : ℕ) (i : Item) → k < length is → i ≡ get_or is k i → drop k is ≡ i ∷ drop (k + 1) is
drop_item [] k i lt e = absurd (omega (arith, lt))
drop_item (x ∷ is) zero i lt e = ap (λ (y : Item). y ∷ is) (sym e)
drop_item (x ∷ is) (suc k) i lt e =
    let next : suc (k + 1) ≡ suc k + 1 = omega arith in
    drop_item is k i (omega (arith, lt)) e ∙ ap (λ (n : ℕ). i ∷ drop n (x ∷ is)) next

drop_block : (bs : List Block) (k : ℕ) (b : Block) → slice_get bs k ≡ Some b → drop k bs ≡ b ∷ drop (k + 1) bs
drop_block [] k b e = cc
drop_block (x ∷ bs) zero b e = let same : x ≡ b = cc in ap (λ (y : Block). y ∷ bs) same
drop_block (x ∷ bs) (suc k) b e =
    let next : suc (k + 1) ≡ suc k + 1 = omega arith in
    drop_block bs k b e ∙ ap (λ (n : ℕ). b ∷ drop n (x ∷ bs)) next

-- the block at an index
pub block_at : (bs : List Block) (k : ℕ) → k < length bs → (b : Block) × (slice_get bs k ≡ Some b)
block_at [] k lt = absurd (omega (arith, lt))
block_at (x ∷ bs) zero lt = (x, refl)
block_at (x ∷ bs) (suc k) lt = block_at bs k (omega (arith, lt))

pub got_block : (bs : List Block) (k : ℕ) (b : Block) → slice_get bs k ≡ Some b → (c : Block) → c ≡ get_or bs k c → c ≡ b
got_block [] k b e c at = cc
got_block (x ∷ bs) zero b e c at = let same : x ≡ b = cc in at ∙ same
got_block (x ∷ bs) (suc k) b e c at = got_block bs k b e c at

pub got_item : (is : List Item) (k : ℕ) (i : Item) → k < length is → i ≡ get_or is k i → slice_get is k ≡ Some i
got_item [] k i lt e = absurd (omega (arith, lt))
got_item (x ∷ is) zero i lt e = ap (λ (y : Item). Some y) (sym e)
got_item (x ∷ is) (suc k) i lt e = got_item is k i (omega (arith, lt)) e

past_items : (is : List Item) (k : ℕ) → length is ≤ k → drop k is ≡ []
past_items [] zero le = refl
past_items [] (suc k) le = refl
past_items (x ∷ is) zero le = absurd (omega (arith, le))
past_items (x ∷ is) (suc k) le = past_items is k (omega (arith, le))

past_blocks : (bs : List Block) (k : ℕ) → length bs ≤ k → drop k bs ≡ []
past_blocks [] zero le = refl
past_blocks [] (suc k) le = refl
past_blocks (x ∷ bs) zero le = absurd (omega (arith, le))
past_blocks (x ∷ bs) (suc k) le = past_blocks bs k (omega (arith, le))

nothing_behind : {A : Type 0} (xs : List A) → xs ++ [] ≡ xs
nothing_behind {A} [] = refl
nothing_behind {A} (x ∷ xs) = ap (λ (r : List A). x ∷ r) (nothing_behind xs)

-- ---- items

module _ (f : Function) (given : ℕ → Option ℕ) (b : ℕ) (items : List Item) (start : Places) where
  -- the items so far, and what was lost of them
  pub record Along (k : ℕ) (here : Places) (made : List Item) (old lost : List Loss) : Type 0 where
    pub set : here ≡ stale_at given items k start
    pub items_made : made ++ items_now given (silent_along f given items start) b k (drop k items) ≡
        items_now given (silent_along f given items start) b 0 items
    pub all_lost : lost ++ lost_items (silent_along f given items start) b k (drop k items) ≡
        old ++ lost_items (silent_along f given items start) b 0 items

  pub along_begins : (here : Places) (made : List Item) (lost : List Loss) → here ≡ start → made ≡ [] → Along 0 here made lost lost
  along_begins here made lost is none = record {
    set = is;
    items_made = ap (λ (xs : List Item). xs ++ items_now given (silent_along f given items start) b 0 items) none;
    all_lost = refl;
  }

  pub along_goes_on : {k : ℕ} {here : Places} {made : List Item} {old lost : List Loss} → Along k here made old lost → (i : Item) → k < length items →
      i ≡ get_or items k i → (next : Places) (made' : List Item) (lost' : List Loss) → next ≡ stale_next given i.kind here →
      made' ≡ made ++ record { kind = kind_now given (is_silent f here) i.kind; origin = i.origin; loc = i.loc } ∷ [] →
      lost' ≡ lost ++ lost_kind (is_silent f here) i.kind i.origin → Along (k + 1) next made' old lost'
  along_goes_on {k} {here} {made} {old} {lost} w i lt at next made' lost' step one loses =
      let got : slice_get items k ≡ Some i = got_item items k i lt at in
      let left : drop k items ≡ i ∷ drop (k + 1) items = drop_item items k i lt at in
      let silences : is_silent f here ≡ silent_along f given items start (pos_in b k) = λ t. is_silent f (w.set t) in
      let rest : List Item = items_now given (silent_along f given items start) b (k + 1) (drop (k + 1) items) in
      let rest_lost : List Loss = lost_items (silent_along f given items start) b (k + 1) (drop (k + 1) items) in
      record {
        set = step_at given items k i start here next got w.set step;
        items_made =
            ap (λ (xs : List Item). xs ++ rest) one ∙
            append_assoc made (record { kind = kind_now given (is_silent f here) i.kind; origin = i.origin; loc = i.loc } ∷ []) rest ∙
            (λ t. made ++ record { kind = kind_now given (silences t) i.kind; origin = i.origin; loc = i.loc } ∷ rest) ∙
            ap (λ (xs : List Item). made ++ items_now given (silent_along f given items start) b k xs) (sym left) ∙ w.items_made;
        all_lost =
            ap (λ (xs : List Loss). xs ++ rest_lost) loses ∙
            append_assoc lost (lost_kind (is_silent f here) i.kind i.origin) rest_lost ∙
            (λ t. lost ++ (lost_kind (silences t) i.kind i.origin ++ rest_lost)) ∙
            ap (λ (xs : List Item). lost ++ lost_items (silent_along f given items start) b k xs) (sym left) ∙ w.all_lost;
      }

  pub along_made : {k : ℕ} {here : Places} {made : List Item} {old lost : List Loss} → Along k here made old lost → length items ≤ k →
      made ≡ items_now given (silent_along f given items start) b 0 items
  along_made {k} {here} {made} {old} {lost} w le =
      sym (nothing_behind made) ∙
      ap (λ (xs : List Item). made ++ items_now given (silent_along f given items start) b k xs) (sym (past_items items k le)) ∙ w.items_made

  pub along_lost : {k : ℕ} {here : Places} {made : List Item} {old lost : List Loss} → Along k here made old lost → length items ≤ k →
      lost ≡ old ++ lost_items (silent_along f given items start) b 0 items
  along_lost {k} {here} {made} {old} {lost} w le =
      sym (nothing_behind lost) ∙
      ap (λ (xs : List Item). lost ++ lost_items (silent_along f given items start) b k xs) (sym (past_items items k le)) ∙ w.all_lost

-- ---- blocks

module _ (f : Function) (sound : IsSound f) (given : ℕ → Option ℕ) (w : StaleSets) (names : w.ids ≡ ids_of f.blocks) where
  -- along a block the tests agree
  along_block : (k : ℕ) (b : Block) → slice_get f.blocks k ≡ Some b → (start : Places) → start ≡ start_in given k (has w.slots (get_or w.starts k [])) →
      (n r : ℕ) → silent_along f given b.items start (pos_in b.id n) r ≡ silent_by f given (starts_of f given w) (pos_in b.id n) r
  along_block k b at start is n r =
      let from = from_block-at f.blocks k b sound.blocks_apart at in
      let begun : start ≡ starts_of f given w b.id = is ∙ starts_are f sound given w names k b at in
      (λ t. is_silent f (stale_at given b.items n (begun t)) r) ∙
      sym (ap (λ (bs : List Block). is_silent f (stale_in given bs (starts_of f given w) n) r) from)

  pub block_made : (k : ℕ) (b : Block) → slice_get f.blocks k ≡ Some b → (start : Places) → start ≡ start_in given k (has w.slots (get_or w.starts k [])) →
      items_now given (silent_along f given b.items start) b.id 0 b.items ≡ items_now given (silent_by f given (starts_of f given w)) b.id 0 b.items
  block_made k b at start is =
      same_items given (silent_along f given b.items start) (silent_by f given (starts_of f given w)) b.id (along_block k b at start is) 0 b.items

  pub block_lost : (k : ℕ) (b : Block) → slice_get f.blocks k ≡ Some b → (start : Places) → start ≡ start_in given k (has w.slots (get_or w.starts k [])) →
      lost_items (silent_along f given b.items start) b.id 0 b.items ≡ lost_items (silent_by f given (starts_of f given w)) b.id 0 b.items
  block_lost k b at start is =
      same_lost given (silent_along f given b.items start) (silent_by f given (starts_of f given w)) b.id (along_block k b at start is) 0 b.items

module _ (f : Function) (given : ℕ → Option ℕ) (w : StaleSets) where
  -- the blocks so far
  pub record Down (k : ℕ) (made : List Block) (lost : List Loss) : Type 0 where
    pub blocks_made : made ++ blocks_now given (silent_by f given (starts_of f given w)) (drop k f.blocks) ≡
        blocks_now given (silent_by f given (starts_of f given w)) f.blocks
    pub all_lost : lost ++ lost_blocks (silent_by f given (starts_of f given w)) (drop k f.blocks) ≡
        lost_blocks (silent_by f given (starts_of f given w)) f.blocks

  pub down_begins : (made : List Block) (lost : List Loss) → made ≡ [] → lost ≡ [] → Down 0 made lost
  down_begins made lost none nothing = record {
    blocks_made = ap (λ (xs : List Block). xs ++ blocks_now given (silent_by f given (starts_of f given w)) f.blocks) none;
    all_lost = ap (λ (xs : List Loss). xs ++ lost_blocks (silent_by f given (starts_of f given w)) f.blocks) nothing;
  }

  pub down_goes_on : {k : ℕ} {made : List Block} {lost : List Loss} → Down k made lost → (b : Block) → slice_get f.blocks k ≡ Some b →
      (made' : List Block) (lost' : List Loss) → made' ≡ made ++ block_now given (silent_by f given (starts_of f given w)) b ∷ [] →
      lost' ≡ lost ++ lost_items (silent_by f given (starts_of f given w)) b.id 0 b.items → Down (k + 1) made' lost'
  down_goes_on {k} {made} {lost} d b at made' lost' one loses =
      let left : drop k f.blocks ≡ b ∷ drop (k + 1) f.blocks = drop_block f.blocks k b at in
      let rest : List Block = blocks_now given (silent_by f given (starts_of f given w)) (drop (k + 1) f.blocks) in
      let rest_lost : List Loss = lost_blocks (silent_by f given (starts_of f given w)) (drop (k + 1) f.blocks) in
      record {
        blocks_made =
            ap (λ (xs : List Block). xs ++ rest) one ∙ append_assoc made (block_now given (silent_by f given (starts_of f given w)) b ∷ []) rest ∙
            ap (λ (xs : List Block). made ++ blocks_now given (silent_by f given (starts_of f given w)) xs) (sym left) ∙ d.blocks_made;
        all_lost =
            ap (λ (xs : List Loss). xs ++ rest_lost) loses ∙
            append_assoc lost (lost_items (silent_by f given (starts_of f given w)) b.id 0 b.items) rest_lost ∙
            ap (λ (xs : List Block). lost ++ lost_blocks (silent_by f given (starts_of f given w)) xs) (sym left) ∙ d.all_lost;
      }

  pub down_made : {k : ℕ} {made : List Block} {lost : List Loss} → Down k made lost → length f.blocks ≤ k →
      made ≡ blocks_now given (silent_by f given (starts_of f given w)) f.blocks
  down_made {k} {made} {lost} d le =
      sym (nothing_behind made) ∙
      ap (λ (xs : List Block). made ++ blocks_now given (silent_by f given (starts_of f given w)) xs) (sym (past_blocks f.blocks k le)) ∙ d.blocks_made

  pub down_lost : {k : ℕ} {made : List Block} {lost : List Loss} → Down k made lost → length f.blocks ≤ k →
      lost ≡ lost_blocks (silent_by f given (starts_of f given w)) f.blocks
  down_lost {k} {made} {lost} d le =
      sym (nothing_behind lost) ∙
      ap (λ (xs : List Block). lost ++ lost_blocks (silent_by f given (starts_of f given w)) xs) (sym (past_blocks f.blocks k le)) ∙ d.all_lost
