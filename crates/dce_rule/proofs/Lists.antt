-- Blocks without dead code: what stands where.
use Rattle.std.proofs.Common.{◌≡◌, ℕ, zero, suc, List, [], ◌∷◌, ◌++◌, map, drop, length}
use Rattle.std.proofs.Common.{Bool, true, false, cond, nat_eq, Option, Some, None, refl, sym, ap, ◌∙◌}
use Rattle.std.proofs.Common.{slice_get}
use Rattle.std.proofs.lemmas.Bool.{eqb-true}
use Rattle.mir_func.specs.declared.debug_substitution.OperandPair.{OperandPair}
use Rattle.mir_func.specs.declared.position.Pos.{Pos}
use Rattle.mir_func.specs.declared.variable.VarId.{VarId}
use Rattle.rv64_instr.specs.declared.place.Place.{Place}
use Rattle.rv64_instr.specs.declared.place.Place.TheVariants.{Register}
use Rattle.mir_func.specs.declared.variable.MarkValue.TheVariants.{Nothing, Constant, At, Pair}
use Rattle.mir_func.specs.declared.block.Block.{Block}
use Rattle.mir_func.specs.declared.item.Item.{Item}
use Rattle.mir_func.specs.declared.item.ItemKind.{ItemKind}
use Rattle.mir_func.specs.declared.item.ItemKind.TheVariants.{Code, Mark, Phi}
use Rattle.mir_func.specs.Graph.{Here, EndOfBlock, Program, block_start, end_of, front, fetch_in, from_block, program_of, rest_in, rest_of}
use Rattle.mir_func.specs.Successors.{pos_in}
use Rattle.mir_func.specs.Sound.{items_of}
use Rattle.sem_mir.proofs.Reading.{found_in}
use Rattle.pass_trait.proofs.Thinning.{first_of_front, none_of_front}
use Rattle.dce_rule.specs.Dead.{Places, Ends, is_dead, needed_at}
use Rattle.dce_rule.specs.Wrong.{silenced, silenced_left, silenced_block}
use Rattle.dce_rule.specs.Gone.{judged, judged_of}

-- ---- silence

abbrev pub quiet : Places → Item → Item
quiet w x = record x { kind = silenced w x.kind }

-- what holds of an item, and of a mark and a phi that give nothing, holds of the item silenced
pub quiet_is : (P : ItemKind → Type 0) (w : Places) (k : ItemKind) → P k → ((v : VarId) (r : ℕ) → k ≡ Mark v (At r) → P (Mark v Nothing)) →
    ((x : Place) (n : ℕ) → k ≡ Phi (Some x) n → P (Phi None n)) → P (silenced w k)
quiet_is P w (Code i n) h mark phi = h
quiet_is P w (Mark v Nothing) h mark phi = h
quiet_is P w (Mark v (Constant n)) h mark phi = h
quiet_is P w (Mark v (At r)) h mark phi = by_test (w (Register r)) where
  by_test : (z : Bool) → P (cond z (Mark v Nothing) (Mark v (At r)))
  by_test true = mark v r refl
  by_test false = h
quiet_is P w (Mark v (Pair q)) h mark phi = h
quiet_is P w (Phi None n) h mark phi = h
quiet_is P w (Phi (Some x) n) h mark phi = by_test (w x) where
  by_test : (z : Bool) → P (cond z (Phi None n) (Phi (Some x) n))
  by_test true = phi x n refl
  by_test false = h

-- ---- lists

pub drop_all : (xs : List Item) → drop (length xs) xs ≡ []
drop_all [] = refl
drop_all (x ∷ xs) = drop_all xs

drop_zero : (xs : List Item) → drop 0 xs ≡ xs
drop_zero [] = refl
drop_zero (x ∷ xs) = refl

-- what stands at a position stands first in the rest of its block
pub rest_at : (sp : Bool) (blocks : List Block) (resolve : OperandPair → Option OperandPair) (p : Pos) (x : Item) →
    (program_of sp blocks resolve).fetch p ≡ Here x → (is : List Item) × (rest_of blocks p ≡ x ∷ is)
rest_at sp blocks resolve p x e = by_blocks (from_block blocks p.block) e where
  by_blocks : (bs : List Block) → fetch_in bs p.item ≡ Here x → (is : List Item) × (rest_in bs p.item ≡ x ∷ is)
  by_blocks [] e = cc
  by_blocks (b ∷ bs) e = first_of_front (drop p.item b.items) b.source_end bs x e

-- an item of a list that isn't dead
pub record Stays (xs : List Item) (needed : Places) (y : Item) : Type 0 where
  pub index : ℕ
  pub item : Item
  pub rest : List Item
  pub at : drop index xs ≡ item ∷ rest
  pub stays : is_dead item.kind (needed_at rest needed) ≡ false
  pub wrong : Places
  pub is : y ≡ quiet wrong item

further : (x : Item) (xs : List Item) (needed : Places) (y : Item) → Stays xs needed y → Stays (x ∷ xs) needed y
further x xs needed y s = record { index = suc s.index; item = s.item; rest = s.rest; at = s.at; stays = s.stays; wrong = s.wrong; is = s.is }

-- it stands somewhere, silenced perhaps
pub record Found (ys : List Item) (x : Item) : Type 0 where
  pub index : ℕ
  pub rest : List Item
  pub wrong : Places
  pub at : drop index ys ≡ quiet wrong x ∷ rest

module _ (needed : Places) where
  -- what is left stood somewhere, and isn't dead
  left_from : (wrong : ℕ → Places) (n : ℕ) (xs : List Item) (m : ℕ) (y : Item) (more : List Item) → drop m (silenced_left wrong n xs needed) ≡ y ∷ more →
      Stays xs needed y
  left_from wrong n [] zero y more e = cc
  left_from wrong n [] (suc m) y more e = cc
  left_from wrong n (x ∷ xs) m y more e =
      by_test (is_dead x.kind (needed_at xs needed)) refl m (λ j h. left_from wrong (suc n) xs j y more h) e where
        by_test : (z : Bool) → is_dead x.kind (needed_at xs needed) ≡ z → (m : ℕ) →
            ((j : ℕ) → drop j (silenced_left wrong (suc n) xs needed) ≡ y ∷ more → Stays xs needed y) →
            drop m (cond z (silenced_left wrong (suc n) xs needed) (quiet (wrong n) x ∷ silenced_left wrong (suc n) xs needed)) ≡ y ∷ more →
            Stays (x ∷ xs) needed y
        by_test true dead m rec e = further x xs needed y (rec m e)
        by_test false stay zero rec e =
            let w : quiet (wrong n) x ≡ y = cc in
            record { index = 0; item = x; rest = xs; at = refl; stays = stay; wrong = wrong n; is = sym w }
        by_test false stay (suc m) rec e = further x xs needed y (rec m e)

  -- what isn't dead is there still
  left_to : (wrong : ℕ → Places) (n : ℕ) (xs : List Item) (m : ℕ) (x : Item) (more : List Item) → drop m xs ≡ x ∷ more →
      is_dead x.kind (needed_at more needed) ≡ false → Found (silenced_left wrong n xs needed) x
  left_to wrong n [] zero x more e stay = cc
  left_to wrong n [] (suc m) x more e stay = cc
  left_to wrong n (y ∷ ys) zero x more e stay =
      let same : y ≡ x = cc in
      let tail : ys ≡ more = cc in
      here (is_dead y.kind (needed_at ys needed)) ((λ i. is_dead (same i).kind (needed_at (tail i) needed)) ∙ stay) same where
        here : (z : Bool) → z ≡ false → y ≡ x → Found (cond z (silenced_left wrong (suc n) ys needed) (quiet (wrong n) y ∷
            silenced_left wrong (suc n) ys needed)) x
        here true e same = cc
        here false e same = record {
          index = 0;
          rest = silenced_left wrong (suc n) ys needed;
          wrong = wrong n;
          at = λ i. quiet (wrong n) (same i) ∷
              silenced_left wrong (suc n) ys needed;
        }
  left_to wrong n (y ∷ ys) (suc m) x more e stay = later (is_dead y.kind (needed_at ys needed)) (left_to wrong (suc n) ys m x more e stay) where
    later : (z : Bool) → Found (silenced_left wrong (suc n) ys needed) x →
        Found (cond z (silenced_left wrong (suc n) ys needed) (quiet (wrong n) y ∷ silenced_left wrong (suc n) ys needed)) x
    later true s = s
    later false s = record { index = suc s.index; rest = s.rest; wrong = s.wrong; at = s.at }

module _ (wrong : Pos → Places) (ends : Ends) where
  abbrev pub taken : Block → Block
  taken b = silenced_block wrong ends b

  pub from_taken : (bs : List Block) (n : ℕ) → from_block (map taken bs) n ≡ map taken (from_block bs n)
  from_taken [] n = refl
  from_taken (b ∷ bs) n = by_test (nat_eq b.id n) (from_taken bs n) where
    by_test : (z : Bool) → from_block (map taken bs) n ≡ map taken (from_block bs n) →
        cond z (map taken (b ∷ bs)) (from_block (map taken bs) n) ≡ map taken (cond z (b ∷ bs) (from_block bs n))
    by_test true h = refl
    by_test false h = h

  pub end_taken : (k : ℕ) (bs : List Block) → end_of k (map taken bs) ≡ end_of k bs
  end_taken k [] = refl
  end_taken k (b ∷ bs) = refl

  module _ (sp : Bool) (blocks : List Block) (resolve : OperandPair → Option OperandPair) where
    abbrev f : Program
    f = program_of sp blocks resolve

    abbrev g : Program
    g = program_of sp (map taken blocks) resolve

    -- an item of the function without dead code, and where it stood
    pub record CameFrom (q : Pos) (y : Item) : Type 0 where
      pub pos : Pos
      pub block : pos.block ≡ q.block
      pub item : Item
      pub rest : List Item
      pub stands : f.fetch pos ≡ Here item
      pub at : rest_of blocks pos ≡ item ∷ rest
      pub stays : is_dead item.kind (needed_at rest (ends pos.block)) ≡ false
      pub source_end : Places
      pub is : y ≡ quiet source_end item

    pub item_from : (q : Pos) (y : Item) → g.fetch q ≡ Here y → CameFrom q y
    item_from q y e = by_blocks (from_block blocks q.block) refl (ap (λ (bs : List Block). fetch_in bs q.item) (sym (from_taken blocks q.block)) ∙ e) where
      by_blocks : (bs : List Block) → from_block blocks q.block ≡ bs → fetch_in (map taken bs) q.item ≡ Here y → CameFrom q y
      by_blocks [] h k = cc
      by_blocks (b ∷ bs) h k =
          let t = first_of_front (drop q.item (silenced_left (λ n. wrong (pos_in b.id n)) 0 b.items (ends b.id))) b.source_end (map taken bs) y k in
          let s = left_from (ends b.id) (λ n. wrong (pos_in b.id n)) 0 b.items q.item y t.0 t.1 in
          let id : b.id ≡ q.block = (found_in blocks q.block b bs h).1 in
          record {
            pos = record { block = q.block; item = s.index };
            block = refl;
            item = s.item;
            rest = s.rest;
            stands = ap (λ (x : List Block). fetch_in x s.index) h ∙ ap (λ (x : List Item). front x b.source_end bs) s.at;
            at = ap (λ (x : List Block). rest_in x s.index) h ∙ s.at;
            stays = ap (λ (n : ℕ). is_dead s.item.kind (needed_at s.rest (ends n))) (sym id) ∙ s.stays;
            source_end = s.wrong;
            is = s.is;
          }

    -- an item that isn't dead, and where it stands
    pub record GoesOn (p : Pos) (x : Item) : Type 0 where
      pub pos : Pos
      pub block : pos.block ≡ p.block
      pub source_end : Places
      pub stands : g.fetch pos ≡ Here (quiet source_end x)

    pub item_to : (p : Pos) (x : Item) (rest : List Item) → rest_of blocks p ≡ x ∷ rest → is_dead x.kind (needed_at rest (ends p.block)) ≡ false → GoesOn p x
    item_to p x rest at stay = by_blocks (from_block blocks p.block) refl at where
      by_blocks : (bs : List Block) → from_block blocks p.block ≡ bs → rest_in bs p.item ≡ x ∷ rest → GoesOn p x
      by_blocks [] h e = cc
      by_blocks (b ∷ bs) h e =
          let id : b.id ≡ p.block = (found_in blocks p.block b bs h).1 in
          let s = left_to (ends b.id) (λ n. wrong (pos_in b.id n)) 0 b.items p.item x rest e
          (ap (λ (n : ℕ). is_dead x.kind (needed_at rest (ends n))) id ∙ stay) in
          record {
            pos = record { block = p.block; item = s.index };
            block = refl;
            source_end = s.wrong;
            stands = ap (λ (z : List Block). fetch_in z s.index) (from_taken blocks p.block ∙ ap (map taken) h) ∙
                ap (λ (z : List Item). front z b.source_end (map taken bs)) s.at;
          }

    -- a block's end is where it was
    pub end_from : (q : Pos) (k n : ℕ) → g.fetch q ≡ EndOfBlock k n → (p : Pos) × (p.block ≡ q.block) × (f.fetch p ≡ EndOfBlock k n)
    end_from q k n e = by_blocks (from_block blocks q.block) refl (ap (λ (bs : List Block). fetch_in bs q.item) (sym (from_taken blocks q.block)) ∙ e) where
      by_blocks : (bs : List Block) → from_block blocks q.block ≡ bs → fetch_in (map taken bs) q.item ≡ EndOfBlock k n →
          (p : Pos) × (p.block ≡ q.block) × (f.fetch p ≡ EndOfBlock k n)
      by_blocks [] h e = cc
      by_blocks (b ∷ bs) h e =
          let t = none_of_front (drop q.item (silenced_left (λ n. wrong (pos_in b.id n)) 0 b.items (ends b.id))) b.source_end (map taken bs) k n e in (
            record { block = q.block; item = length b.items },
            refl,
            ap (λ (x : List Block). fetch_in x (length b.items)) h ∙
                ap (λ (x : List Item). front x b.source_end bs) (drop_all b.items) ∙ sym (end_taken b.source_end bs) ∙ t.1,
          )

    -- past the items of a block f stands where g does
    pub end_there : (p q : Pos) (k n : ℕ) → p.block ≡ q.block → rest_of blocks p ≡ [] → g.fetch q ≡ EndOfBlock k n → f.fetch p ≡ EndOfBlock k n
    end_there p q k n same none e = by_blocks (from_block blocks q.block) refl
        (ap (λ (bs : List Block). fetch_in bs q.item) (sym (from_taken blocks q.block)) ∙ e) where
          by_blocks : (bs : List Block) → from_block blocks q.block ≡ bs → fetch_in (map taken bs) q.item ≡ EndOfBlock k n → f.fetch p ≡ EndOfBlock k n
          by_blocks [] h e = cc
          by_blocks (b ∷ bs) h e =
              let t = none_of_front (drop q.item (silenced_left (λ n. wrong (pos_in b.id n)) 0 b.items (ends b.id))) b.source_end (map taken bs) k n e in
              let at : from_block blocks p.block ≡ b ∷ bs = ap (from_block blocks) same ∙ h in
              let r : drop p.item b.items ≡ [] = ap (λ (x : List Block). rest_in x p.item) (sym at) ∙ none in
              ap (λ (x : List Block). fetch_in x p.item) at ∙ ap (λ (x : List Item). front x b.source_end bs) r ∙ sym (end_taken b.source_end bs) ∙ t.1

    -- two positions of one block past its items have one end
    pub one_past : (p q : Pos) (k n : ℕ) → p.block ≡ q.block → rest_of blocks p ≡ [] → f.fetch q ≡ EndOfBlock k n → f.fetch p ≡ EndOfBlock k n
    one_past p q k n same none e = by_blocks (from_block blocks q.block) refl e where
      by_blocks : (bs : List Block) → from_block blocks q.block ≡ bs → fetch_in bs q.item ≡ EndOfBlock k n → f.fetch p ≡ EndOfBlock k n
      by_blocks [] h e = cc
      by_blocks (b ∷ bs) h e =
          let t = none_of_front (drop q.item b.items) b.source_end bs k n e in
          let at : from_block blocks p.block ≡ b ∷ bs = ap (from_block blocks) same ∙ h in
          let r : drop p.item b.items ≡ [] = ap (λ (x : List Block). rest_in x p.item) (sym at) ∙ none in
          ap (λ (x : List Block). fetch_in x p.item) at ∙ ap (λ (x : List Item). front x b.source_end bs) r ∙ t.1

    -- what a block starts with
    pub rest_taken : (n : ℕ) →
        rest_of (map taken blocks) (block_start n) ≡ silenced_left (λ m. wrong (pos_in n m)) 0 (rest_of blocks (block_start n)) (ends n)
    rest_taken n = ap (λ (bs : List Block). rest_in bs 0) (from_taken blocks n) ∙ by_blocks (from_block blocks n) refl where
      by_blocks : (bs : List Block) → from_block blocks n ≡ bs → rest_in (map taken bs) 0 ≡ silenced_left (λ m. wrong (pos_in n m)) 0 (rest_in bs 0) (ends n)
      by_blocks [] h = refl
      by_blocks (b ∷ bs) h =
          let id : b.id ≡ n = (found_in blocks n b bs h).1 in
          drop_zero _ ∙ (let e = sym (drop_zero b.items) in λ i. silenced_left (λ m. wrong (pos_in (id i) m)) 0 (e i) (ends (id i)))

-- ---- numbers of dead code

get_left : {A : Type 0} (xs ys : List A) (k : ℕ) (x : A) → slice_get xs k ≡ Some x → slice_get (xs ++ ys) k ≡ Some x
get_left [] ys k x e = cc
get_left (z ∷ xs) ys zero x e = e
get_left (z ∷ xs) ys (suc k) x e = get_left xs ys k x e

get_right : {A : Type 0} (xs ys : List A) (k : ℕ) (x : A) → slice_get ys k ≡ Some x → (j : ℕ) × (slice_get (xs ++ ys) j ≡ Some x)
get_right [] ys k x e = (k, e)
get_right (z ∷ xs) ys k x e = let w = get_right xs ys k x e in (suc w.0, w.1)

module _ (ends : Ends) where
  judged_first : (xs : List Item) (needed : Places) → map (λ (w : Item × Bool). w.0) (judged xs needed) ≡ xs
  judged_first [] needed = refl
  judged_first (x ∷ xs) needed = ap (λ (ys : List Item). x ∷ ys) (judged_first xs needed)

  map_append : (xs ys : List (Item × Bool)) → map (λ (w : Item × Bool). w.0) (xs ++ ys) ≡ map (λ (w : Item × Bool). w.0) xs ++ map (λ (w : Item × Bool). w.0) ys
  map_append [] ys = refl
  map_append (x ∷ xs) ys = ap (λ (zs : List Item). x.0 ∷ zs) (map_append xs ys)

  judged_items : (bs : List Block) → map (λ (w : Item × Bool). w.0) (judged_of ends bs) ≡ items_of bs
  judged_items [] = refl
  judged_items (b ∷ bs) =
      let e = judged_first b.items (ends b.id) in
      let es = judged_items bs in
      map_append (judged b.items (ends b.id)) (judged_of ends bs) ∙ (λ i. e i ++ es i)

  get_map : (xs : List (Item × Bool)) (k : ℕ) (w : Item × Bool) → slice_get xs k ≡ Some w → slice_get (map (λ (w : Item × Bool). w.0) xs) k ≡ Some w.0
  get_map [] k w e = cc
  get_map (x ∷ xs) zero w e = let same : x ≡ w = cc in ap (λ (z : Item × Bool). Some z.0) same
  get_map (x ∷ xs) (suc k) w e = get_map xs k w e

  pub judged_at : (bs : List Block) (k : ℕ) (x : Item) (z : Bool) → slice_get (judged_of ends bs) k ≡ Some (x, z) → slice_get (items_of bs) k ≡ Some x
  judged_at bs k x z e = ap (λ (ys : List Item). slice_get ys k) (sym (judged_items bs)) ∙ get_map (judged_of ends bs) k (x, z) e

  judged_in : (xs : List Item) (needed : Places) (n : ℕ) (x : Item) (rest : List Item) → drop n xs ≡ x ∷ rest →
      (j : ℕ) × (slice_get (judged xs needed) j ≡ Some (x, is_dead x.kind (needed_at rest needed)))
  judged_in [] needed zero x rest e = cc
  judged_in [] needed (suc n) x rest e = cc
  judged_in (y ∷ ys) needed zero x rest e =
      let same : y ≡ x = cc in
      let tail : ys ≡ rest = cc in
      (0, λ i. Some (same i, is_dead (same i).kind (needed_at (tail i) needed)))
  judged_in (y ∷ ys) needed (suc n) x rest e = let w = judged_in ys needed n x rest e in (suc w.0, w.1)

  -- what stands at a position is among the items, and judged by what is needed behind it
  pub judged_there : (bs : List Block) (p : Pos) (x : Item) (rest : List Item) → rest_of bs p ≡ x ∷ rest →
      (j : ℕ) × (slice_get (judged_of ends bs) j ≡ Some (x, is_dead x.kind (needed_at rest (ends p.block))))
  judged_there [] p x rest e = cc
  judged_there (b ∷ bs) p x rest e = by_test (nat_eq b.id p.block) refl e (judged_there bs p x rest) where
    Goal : Type 0
    Goal = (j : ℕ) × (slice_get (judged_of ends (b ∷ bs)) j ≡ Some (x, is_dead x.kind (needed_at rest (ends p.block))))

    by_test : (z : Bool) → nat_eq b.id p.block ≡ z → rest_in (cond z (b ∷ bs) (from_block bs p.block)) p.item ≡ x ∷ rest →
        (rest_in (from_block bs p.block) p.item ≡ x ∷ rest →
        (j : ℕ) × (slice_get (judged_of ends bs) j ≡ Some (x, is_dead x.kind (needed_at rest (ends p.block))))) → Goal
    by_test true t e later =
        let id : b.id ≡ p.block = eqb-true b.id p.block t in
        let w = judged_in b.items (ends b.id) p.item x rest e in (
          w.0,
          get_left (judged b.items (ends b.id)) (judged_of ends bs) w.0 _ w.1 ∙
              ap (λ (n : ℕ). Some (x, is_dead x.kind (needed_at rest (ends n)))) id,
        )
    by_test false t e later = let w = later e in get_right (judged b.items (ends b.id)) (judged_of ends bs) w.0 _ w.1
