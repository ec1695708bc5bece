-- Blocks that are edited item by item: an item stays, rewritten perhaps, or is taken out, or a debug item is put before it.
use Rattle.std.proofs.Common.{◌≡◌, ℕ, zero, suc, ◌+◌, ◌*◌, ◌<◌, ◌≤◌, List, [], ◌∷◌, drop, length, Option}
use Rattle.std.proofs.Common.{Bool, true, false, cond}
use Rattle.std.proofs.Common.{nat_eq, refl, sym, ap, ◌∙◌, subst, arith}
use Rattle.mir_func.specs.declared.debug_substitution.OperandPair.{OperandPair}
use Rattle.mir_func.specs.declared.position.Pos.{Pos}
use Rattle.mir_func.specs.declared.position.Origin.{Origin}
use Rattle.mir_func.specs.declared.position.Origin.TheVariants.{Kept, Before}
use Rattle.mir_func.specs.declared.block.Block.{Block}
use Rattle.mir_func.specs.declared.item.Item.{Item}
use Rattle.mir_func.specs.Graph.{Here, EndOfBlock, Program, block_start, end_of, front, fetch_in, from_block, program_of, rest_in, rest_of}
use Rattle.mir_func.specs.Positions.{position_of}
use Rattle.sem_agreement.specs.sem_mir.Align.{is_code}
use Rattle.sem_agreement.specs.sem_mir.Follow.{rank, next_rank, InOrder}
use Rattle.sem_mir.proofs.Reading.{found_in}
use Rattle.pass_trait.proofs.Thinning.{first_of_front, none_of_front, drop_all}
use Rattle.pass_salvage.proofs.Kin.{Kin}

-- how one item is edited, from one stage to the next: which item stands for it, whether it may be taken out, and what may be put
pub record Edits : Type 1 where
  pub Stage : Type 0
  pub entry : ℕ → Stage
  pub IsOver : Stage → Type 0
  pub Pair : Stage → Stage → Item → Item → Type 0
  pub Out : Stage → Stage → Item → Type 0
  pub Put : Stage → Stage → Item → Type 0

-- the items of a block, before and after
pub data Edited (E : Edits) : E.Stage → List Item → List Item → Type 0 where
  over : {k : E.Stage} → E.IsOver k → Edited E k [] []
  pair : {k k' : E.Stage} {x y : Item} {xs ys : List Item} → x.origin ≡ y.origin → Kin x.kind y.kind → E.Pair k k' x y → Edited E k' xs ys →
      Edited E k (x ∷ xs) (y ∷ ys)
  out : {k k' : E.Stage} {x : Item} {xs ys : List Item} → E.Out k k' x → Edited E k' xs ys → Edited E k (x ∷ xs) ys
  put : {k k' : E.Stage} {x y : Item} {xs ys : List Item} → is_code y.kind ≡ false → y.origin ≡ Before (position_of x.origin) → E.Put k k' y →
      Edited E k' (x ∷ xs) ys → Edited E k (x ∷ xs) (y ∷ ys)

-- and the blocks
pub data BlocksEdited (E : Edits) : List Block → List Block → Type 0 where
  no_blocks : BlocksEdited E [] []
  next_block : {a b : Block} {fs gs : List Block} → b.id ≡ a.id → b.source_end ≡ a.source_end → Edited E (E.entry a.id) a.items b.items → BlocksEdited E fs gs →
      BlocksEdited E (a ∷ fs) (b ∷ gs)

-- ---- lists

drop_zero : (xs : List Item) → drop 0 xs ≡ xs
drop_zero [] = refl
drop_zero (x ∷ xs) = refl

module _ (E : Edits) where
  -- ---- order

  even : ℕ → Type 0
  even n = (m : ℕ) × (n ≡ 2 * m)

  next_even : (o : Origin) → (m : ℕ) × (next_rank o ≡ 2 * m)
  next_even (Kept p) = (p.item + 1, omega arith)
  next_even (Before p) = (p.item, refl)

  rank_before : (n m : ℕ) (o : Origin) → n ≡ 2 * m → n ≤ rank o → n ≤ 2 * (position_of o).item
  rank_before n m (Kept p) e le = omega (arith, e, le)
  rank_before n m (Before p) e le = le

  rank_of_before : (o : Origin) → 2 * (position_of o).item ≤ rank o
  rank_of_before (Kept p) = omega arith
  rank_of_before (Before p) = omega arith

  rank_next : (o : Origin) (n : ℕ) → n ≤ rank o → n ≤ next_rank o
  rank_next (Kept p) n le = omega (arith, le)
  rank_next (Before p) n le = le

  le_on : (a b c : ℕ) → a ≤ b → b ≤ c → a ≤ c
  le_on a b c h k = omega (arith, h, k)

  order_less : (b n m : ℕ) (xs : List Item) → n ≤ m → InOrder b m xs → InOrder b n xs
  order_less b n m [] le o = tt
  order_less b n m (x ∷ xs) le o = (o.0, le_on n m (rank x.origin) le o.1, o.2)

  pub order_edited : (b n m : ℕ) {k : E.Stage} (xs ys : List Item) → n ≡ 2 * m → Edited E k xs ys → InOrder b n xs → InOrder b n ys
  order_edited b n m xs ys ev (over done) o = tt
  order_edited b n m (x ∷ xs) (y ∷ ys) ev (pair origin kin how rest) o =
      let e = next_even x.origin in
      let later = order_edited b (next_rank x.origin) e.0 xs ys e.1 rest o.2 in
      subst (λ (z : Origin). ((position_of z).block ≡ b) × (n ≤ rank z) × InOrder b (next_rank z) ys) origin (o.0, o.1, later)
  order_edited b n m (x ∷ xs) ys ev (out how rest) o =
      let e = next_even x.origin in
      order_less b n (next_rank x.origin) ys (rank_next x.origin n o.1) (order_edited b (next_rank x.origin) e.0 xs ys e.1 rest o.2)
  order_edited b n m (x ∷ xs) (y ∷ ys) ev (put code origin how rest) o =
      let p = position_of x.origin in
      let later = order_edited b (2 * p.item) p.item (x ∷ xs) ys refl rest (o.0, rank_of_before x.origin, o.2) in
      subst (λ (z : Origin). ((position_of z).block ≡ b) × (n ≤ rank z) × InOrder b (next_rank z) ys) (sym origin)
      (o.0, rank_before n m x.origin ev o.1, later)

  -- ---- what stands where

  -- code of the second stands for code of the first
  pub record ComesFrom (xs ys : List Item) (y : Item) : Type 0 where
    pub index : ℕ
    pub item : Item
    pub rest : List Item
    pub at : drop index xs ≡ item ∷ rest
    pub origin : item.origin ≡ y.origin
    pub kin : Kin item.kind y.kind
    pub stage : E.Stage
    pub edited : Edited E stage (item ∷ rest) ys

  abbrev further : (z : Item) (xs ys : List Item) (y : Item) → ComesFrom xs ys y → ComesFrom (z ∷ xs) ys y
  further z xs ys y s = record {
    index = suc s.index;
    item = s.item;
    rest = s.rest;
    at = s.at;
    origin = s.origin;
    kin = s.kin;
    stage = s.stage;
    edited = s.edited;
  }

  pub comes_from : {k : E.Stage} (xs ys : List Item) → Edited E k xs ys → (j : ℕ) (y : Item) (more : List Item) → drop j ys ≡ y ∷ more →
      is_code y.kind ≡ true → ComesFrom xs (y ∷ more) y
  comes_from xs ys (over done) zero y more e code = cc
  comes_from xs ys (over done) (suc j) y more e code = cc
  comes_from {k} (x ∷ xs) (z ∷ ys) (pair origin kin how rest) zero y more e code =
      let w : z ≡ y = cc in
      record {
        index = 0;
        item = x;
        rest = xs;
        at = refl;
        origin = origin ∙ ap (λ (i : Item). i.origin) w;
        kin = subst (λ (i : Item). Kin x.kind i.kind) w kin;
        stage = k;
        edited = subst (λ (zs : List Item). Edited E k (x ∷ xs) zs) e (pair origin kin how rest);
      }
  comes_from (x ∷ xs) (z ∷ ys) (pair origin kin how rest) (suc j) y more e code = further x xs (y ∷ more) y (comes_from xs ys rest j y more e code)
  comes_from (x ∷ xs) ys (out how rest) j y more e code = further x xs (y ∷ more) y (comes_from xs ys rest j y more e code)
  comes_from (x ∷ xs) (z ∷ ys) (put none origin how rest) zero y more e code =
      let w : z ≡ y = cc in
      let bad : false ≡ true = sym none ∙ ap (λ (i : Item). is_code i.kind) w ∙ code in
      cc
  comes_from (x ∷ xs) (z ∷ ys) (put none origin how rest) (suc j) y more e code = comes_from (x ∷ xs) ys rest j y more e code

  -- one stands for the other, at some stage
  abbrev pub IsPaired : Item → Item → Type 0
  IsPaired x y = (k : E.Stage) × (k' : E.Stage) × E.Pair k k' x y

  -- what stands above such code and isn't taken out stands above it afterwards
  pub above_on : {k : E.Stage} (xs ys : List Item) (h : Edited E k xs ys) (j : ℕ) (y : Item) (more : List Item) (e : drop j ys ≡ y ∷ more)
      (code : is_code y.kind ≡ true) (i : ℕ) (x : Item) (rest : List Item) → drop i xs ≡ x ∷ rest → i < (comes_from xs ys h j y more e code).index →
      ((k k' : E.Stage) → E.Out k k' x → ⊥) →
      (m : ℕ) × (z : Item) × (behind : List Item) × (m < j) × (drop m ys ≡ z ∷ behind) × (x.origin ≡ z.origin) × Kin x.kind z.kind × IsPaired x z
  unfolding comes_from
  above_on xs ys (over done) zero y more e code i x rest at lt stays = cc
  above_on xs ys (over done) (suc j) y more e code i x rest at lt stays = cc
  above_on (u ∷ xs) (z ∷ ys) (pair origin kin how later) zero y more e code i x rest at lt stays = absurd (omega (arith, lt))
  above_on {k} (u ∷ xs) (z ∷ ys) (pair {k' = l} origin kin how later) (suc j) y more e code zero x rest at lt stays =
      let w : u ≡ x = cc in (
        0,
        z,
        ys,
        omega arith,
        refl,
        ap (λ (i : Item). i.origin) (sym w) ∙ origin,
        subst (λ (i : Item). Kin i.kind z.kind) w kin,
        (k, l, subst (λ (i : Item). E.Pair k l i z) w how),
      )
  above_on (u ∷ xs) (z ∷ ys) (pair origin kin how later) (suc j) y more e code (suc i) x rest at lt stays =
      let r = above_on xs ys later j y more e code i x rest at (omega (arith, lt)) stays in
      let less = r.3 in
      (suc r.0, r.1, r.2, omega (arith, less), r.4, r.5, r.6, r.7)
  above_on {k} (u ∷ xs) ys (out {k' = l} how later) j y more e code zero x rest at lt stays =
      let w : u ≡ x = cc in
      absurd (stays k l (subst (λ (i : Item). E.Out k l i) w how))
  above_on (u ∷ xs) ys (out how later) j y more e code (suc i) x rest at lt stays = above_on xs ys later j y more e code i x rest at (omega (arith, lt)) stays
  above_on (u ∷ xs) (z ∷ ys) (put none origin how later) zero y more e code i x rest at lt stays =
      let w : z ≡ y = cc in
      let bad : false ≡ true = sym none ∙ ap (λ (i : Item). is_code i.kind) w ∙ code in
      cc
  above_on (u ∷ xs) (z ∷ ys) (put none origin how later) (suc j) y more e code i x rest at lt stays =
      let r = above_on (u ∷ xs) ys later j y more e code i x rest at lt stays in
      let less = r.3 in
      (suc r.0, r.1, r.2, omega (arith, less), r.4, r.5, r.6, r.7)

  -- what isn't taken out stands somewhere
  pub record GoesOn (x : Item) (ys : List Item) : Type 0 where
    pub index : ℕ
    pub item : Item
    pub rest : List Item
    pub at : drop index ys ≡ item ∷ rest
    pub origin : x.origin ≡ item.origin
    pub kin : Kin x.kind item.kind

  past : (x : Item) (z : Item) (ys : List Item) → GoesOn x ys → GoesOn x (z ∷ ys)
  past x z ys s = record { index = suc s.index; item = s.item; rest = s.rest; at = s.at; origin = s.origin; kin = s.kin }

  pub goes_on : {k : E.Stage} (xs ys : List Item) → Edited E k xs ys → (i : ℕ) (x : Item) (more : List Item) → drop i xs ≡ x ∷ more →
      ((k k' : E.Stage) → E.Out k k' x → ⊥) → GoesOn x ys
  goes_on xs ys (over done) zero x more e stays = cc
  goes_on xs ys (over done) (suc i) x more e stays = cc
  goes_on (z ∷ xs) (y ∷ ys) (pair origin kin how rest) zero x more e stays =
      let w : z ≡ x = cc in
      record {
        index = 0;
        item = y;
        rest = ys;
        at = refl;
        origin = ap (λ (i : Item). i.origin) (sym w) ∙ origin;
        kin = subst (λ (i : Item). Kin i.kind y.kind)
            w kin;
      }
  goes_on (z ∷ xs) (y ∷ ys) (pair origin kin how rest) (suc i) x more e stays = past x y ys (goes_on xs ys rest i x more e stays)
  goes_on (z ∷ xs) ys (out {k} {k'} how rest) zero x more e stays =
      let w : z ≡ x = cc in
      absurd (stays k k' (subst (λ (i : Item). E.Out k k' i) w how))
  goes_on (z ∷ xs) ys (out how rest) (suc i) x more e stays = goes_on xs ys rest i x more e stays
  goes_on (z ∷ xs) (y ∷ ys) (put none origin how rest) i x more e stays = past x y ys (goes_on (z ∷ xs) ys rest i x more e stays)

  -- ---- blocks

  pub blocks_from : (fs gs : List Block) → BlocksEdited E fs gs → (n : ℕ) → BlocksEdited E (from_block fs n) (from_block gs n)
  blocks_from fs gs no_blocks n = no_blocks
  blocks_from (a ∷ fs) (b ∷ gs) (next_block id source_end items rest) n =
      subst (λ (z : ℕ). BlocksEdited E (from_block (a ∷ fs) n) (cond (nat_eq z n) (b ∷ gs) (from_block gs n))) (sym id)
      (by_test (nat_eq a.id n) (blocks_from fs gs rest n)) where
        by_test : (z : Bool) → BlocksEdited E (from_block fs n) (from_block gs n) →
            BlocksEdited E (cond z (a ∷ fs) (from_block fs n)) (cond z (b ∷ gs) (from_block gs n))
        by_test true h = next_block id source_end items rest
        by_test false h = h

  pub ends_same : (source_end silent' : ℕ) (fs gs : List Block) → silent' ≡ source_end → BlocksEdited E fs gs → end_of silent' gs ≡ end_of source_end fs
  ends_same source_end silent' fs gs e no_blocks = refl
  ends_same source_end silent' (a ∷ fs) (b ∷ gs) e (next_block id s items rest) = λ i. EndOfBlock (e i) (id i)

  module _ (fs gs : List Block) (edited : BlocksEdited E fs gs) (sp : Bool) (resolve resolve' : OperandPair → Option OperandPair) where
    abbrev f : Program
    f = program_of sp fs resolve

    abbrev g : Program
    g = program_of sp gs resolve'

    pub item_back : (q : Pos) (y : Item) → g.fetch q ≡ Here y → is_code y.kind ≡ true →
        (p : Pos) × (x : Item) × (p.block ≡ q.block) × (f.fetch p ≡ Here x) × (x.origin ≡ y.origin) × Kin x.kind y.kind
    item_back q y e code = by_blocks (from_block fs q.block) (from_block gs q.block) refl (blocks_from fs gs edited q.block) e where
      by_blocks : (cs bs : List Block) → from_block fs q.block ≡ cs → BlocksEdited E cs bs → fetch_in bs q.item ≡ Here y →
          (p : Pos) × (x : Item) × (p.block ≡ q.block) × (f.fetch p ≡ Here x) × (x.origin ≡ y.origin) × Kin x.kind y.kind
      by_blocks cs bs at no_blocks k = cc
      by_blocks (a ∷ cs) (b ∷ bs) at (next_block id source_end items rest) k =
          let t = first_of_front (drop q.item b.items) b.source_end bs y k in
          let s = comes_from a.items b.items items q.item y t.0 t.1 code in (
            record { block = q.block; item = s.index },
            s.item,
            refl,
            ap (λ (z : List Block). fetch_in z s.index) at ∙ ap (λ (z : List Item). front z a.source_end cs) s.at,
            s.origin,
            s.kin,
          )

    pub item_on : (p : Pos) (x : Item) → f.fetch p ≡ Here x → ((k k' : E.Stage) → E.Out k k' x → ⊥) →
        (q : Pos) × (y : Item) × (q.block ≡ p.block) × (g.fetch q ≡ Here y) × (x.origin ≡ y.origin) × Kin x.kind y.kind
    item_on p x e stays = by_blocks (from_block fs p.block) (from_block gs p.block) refl (blocks_from fs gs edited p.block) e where
      by_blocks : (cs bs : List Block) → from_block gs p.block ≡ bs → BlocksEdited E cs bs → fetch_in cs p.item ≡ Here x →
          (q : Pos) × (y : Item) × (q.block ≡ p.block) × (g.fetch q ≡ Here y) × (x.origin ≡ y.origin) × Kin x.kind y.kind
      by_blocks cs bs at no_blocks k = cc
      by_blocks (a ∷ cs) (b ∷ bs) at (next_block id source_end items rest) k =
          let t = first_of_front (drop p.item a.items) a.source_end cs x k in
          let s = goes_on a.items b.items items p.item x t.0 t.1 stays in (
            record { block = p.block; item = s.index },
            s.item,
            refl,
            ap (λ (z : List Block). fetch_in z s.index) at ∙ ap (λ (z : List Item). front z b.source_end bs) s.at,
            s.origin,
            s.kin,
          )

    -- a block's end is where it was
    pub end_back : (q : Pos) (k n : ℕ) → g.fetch q ≡ EndOfBlock k n → (p : Pos) × (p.block ≡ q.block) × (f.fetch p ≡ EndOfBlock k n)
    end_back q k n e = by_blocks (from_block fs q.block) (from_block gs q.block) refl (blocks_from fs gs edited q.block) e where
      by_blocks : (cs bs : List Block) → from_block fs q.block ≡ cs → BlocksEdited E cs bs → fetch_in bs q.item ≡ EndOfBlock k n →
          (p : Pos) × (p.block ≡ q.block) × (f.fetch p ≡ EndOfBlock k n)
      by_blocks cs bs at no_blocks h = cc
      by_blocks (a ∷ cs) (b ∷ bs) at (next_block id source_end items rest) h =
          let t = none_of_front (drop q.item b.items) b.source_end bs k n h in (
            record { block = q.block; item = length a.items },
            refl,
            ap (λ (z : List Block). fetch_in z (length a.items)) at ∙ ap (λ (z : List Item). front z a.source_end cs) (drop_all a.items) ∙
                sym (ends_same a.source_end b.source_end cs bs source_end rest) ∙ t.1,
          )

    -- past the items of a block f stands where g does
    pub end_there : (p q : Pos) (k n : ℕ) → p.block ≡ q.block → rest_of fs p ≡ [] → g.fetch q ≡ EndOfBlock k n → f.fetch p ≡ EndOfBlock k n
    end_there p q k n same none' e =
        by_blocks (from_block fs q.block) (from_block gs q.block) (ap (from_block fs) same) (blocks_from fs gs edited q.block) e where
          by_blocks : (cs bs : List Block) → from_block fs p.block ≡ cs → BlocksEdited E cs bs → fetch_in bs q.item ≡ EndOfBlock k n →
              f.fetch p ≡ EndOfBlock k n
          by_blocks cs bs at no_blocks h = cc
          by_blocks (a ∷ cs) (b ∷ bs) at (next_block id source_end items rest) h =
              let t = none_of_front (drop q.item b.items) b.source_end bs k n h in
              let r : drop p.item a.items ≡ [] = ap (λ (z : List Block). rest_in z p.item) (sym at) ∙ none' in
              ap (λ (z : List Block). fetch_in z p.item) at ∙ ap (λ (z : List Item). front z a.source_end cs) r ∙ sym
              (ends_same a.source_end b.source_end cs bs source_end rest) ∙ t.1

    -- a block starts with what becomes of its items. Where there is no such block, nothing stands there
    pub starts_edited : ((n : ℕ) → E.IsOver (E.entry n)) → (n : ℕ) → Edited E (E.entry n) (rest_of fs (block_start n)) (rest_of gs (block_start n))
    starts_edited empty n = by_blocks (from_block fs n) (from_block gs n) refl (blocks_from fs gs edited n) where
      by_blocks : (cs bs : List Block) → from_block fs n ≡ cs → BlocksEdited E cs bs → Edited E (E.entry n) (rest_in cs 0) (rest_in bs 0)
      by_blocks cs bs at no_blocks = over (empty n)
      by_blocks (a ∷ cs) (b ∷ bs) at (next_block id source_end items rest) =
          let same : a.id ≡ n = (found_in fs n a cs at).1 in
          subst (λ (xs : List Item). Edited E (E.entry n) xs (drop 0 b.items)) (sym (drop_zero a.items))
          (subst (λ (ys : List Item). Edited E (E.entry n) a.items ys) (sym (drop_zero b.items))
          (subst (λ (m : ℕ). Edited E (E.entry m) a.items b.items) same items))
